-- How a run of `mace4` ends, and what it prints.
use Rattle.std.specs.Prelude.{◌≡◌, ℕ, List, [], ◌++◌, None, Some, ◌⊎◌}
use Rattle.std.specs.declared.result.Result.{Result}
use Rattle.clausify.specs.Input.{first_over}
use Rattle.fol_problem.specs.Stated.{Stated}
use Rattle.ladr_intake.specs.Command.{Runs}
use Rattle.ladr_intake.specs.Posed.{Posed}
use Rattle.ladr_intake.specs.declared.stops.Refused.{Refused}
use Rattle.ladr_intake.specs.declared.stops.Stop.{Stop}
use Rattle.ladr_io.specs.Streams.{Inflow, Outflow}
use Rattle.ladr_io.specs.Times.{Times}
use Rattle.ladr_mace4.specs.Lines.{end_text}
use Rattle.ladr_mace4.specs.Plans.{plan_of}
use Rattle.ladr_mace4.specs.Story.{SearchGoes, SearchComes}
use Rattle.ladr_mace4.specs.declared.ends.SearchEnd.{SearchEnd}
use Rattle.ladr_mace4.specs.declared.ends.SearchEnd.TheVariants.{ClauseLimit}
use Rattle.ladr_mace4.specs.declared.plan.Plan.{Plan}
use Rattle.ladr_words.specs.declared.task.ModelOptions.{ModelOptions}

-- The search for models of what is stated comes to this end, so many models having been printed,
-- with this text before its last lines: the first formula that has too many clauses is named, and
-- nothing is searched, nor the clock read; or the sizes are searched.
abbrev pub Comes : Stated → Plan → Times → SearchEnd → ℕ → List ℕ → Type 0
Comes p s t (ClauseLimit formula) printed text =
    (first_over 1 p.formulas ≡ Some formula) × (t.count ≡ 0) × (text ≡ [])
Comes p s t end printed text = (first_over 1 p.formulas ≡ None) × SearchComes p s t end printed text

-- it ends so, with this text as the whole output
abbrev pub Sought : Stated → Plan → Times → SearchEnd → List ℕ → Type 0
Sought p s t end text =
    (printed : ℕ)
    × ((front : List ℕ) × Comes p s t end printed front × (text ≡ front ++ end_text printed end))

-- It goes on, with this text so far: nothing is done yet; the sizes are searched; or it has come to
-- an end, and the last lines are still to be printed.
abbrev pub Seeks : Stated → Plan → Times → List ℕ → Type 0
Seeks p s t text =
    ((text ≡ []) × (t.count ≡ 0))
    ⊎ (((first_over 1 p.formulas ≡ None) × SearchGoes p s t text)
    ⊎ ((end : SearchEnd) × ((printed : ℕ) × Comes p s t end printed text)))

-- A run of `mace4` with these words, by what bytes say and which are refused. The clock gave
-- nothing where there is no problem.
abbrev pub Searches : (List ℕ → Posed → Type 0) → (List ℕ → Refused → Type 0) → ModelOptions
    → Inflow → Inflow → Outflow → Outflow → Times → Result SearchEnd Stop → Type 0
Searches says refuses words from from' to to' t =
    Runs says refuses (t.count ≡ 0) (λ x. Seeks x.stated (plan_of words x.options) t)
    (λ x. Sought x.stated (plan_of words x.options) t) from from' to to'
