-- Where no time is over, a search for models comes to one end, with one text.
use Rattle.std.specs.Prelude.{◌≡◌, ◌≢◌, ◌⊎◌, ℕ, List, Option, None}
use Rattle.std.specs.declared.result.Result.TheVariants.{Ok}
use Rattle.fol_problem.specs.Stated.{Stated}
use Rattle.ladr_formulas.specs.declared.styles.Mode.TheVariants.{Mace}
use Rattle.ladr_intake.specs.Posed.{Posed, poses}
use Rattle.ladr_intake.specs.Refusals.{refuses}
use Rattle.ladr_io.specs.Streams.{Inflow, Outflow, Takes}
use Rattle.ladr_io.specs.Times.{Times}
use Rattle.ladr_mace4.specs.Finding.{Searches, Sought}
use Rattle.ladr_mace4.specs.Plans.{plan_of}
use Rattle.ladr_mace4.specs.declared.ends.SearchEnd.{SearchEnd}
use Rattle.ladr_mace4.specs.declared.ends.SearchEnd.TheVariants.{MaxSeconds}
use Rattle.ladr_mace4.specs.declared.plan.Plan.{Plan}
use Rattle.ladr_words.specs.declared.task.ModelOptions.{ModelOptions}

-- no time is set, or the end isn't that the time is over
abbrev pub IsUntimed : Option ℕ → SearchEnd → Type 0
IsUntimed seconds end = (seconds ≡ None) ⊎ ((first last : ℕ) → end ≢ MaxSeconds first last)

-- what is asked, with these seconds, and words with them
abbrev pub with_seconds : Plan → Option ℕ → Plan
with_seconds s seconds = record s { seconds = seconds }

abbrev pub words_with : ModelOptions → Option ℕ → ModelOptions
words_with words seconds = record words { max_seconds = seconds }

-- What is asked comes to one such end, with one text, whatever the seconds are and the clocks gave.
abbrev pub SearchEndIsOne : Type 0
SearchEndIsOne =
    (p : Stated) (s : Plan) (seconds seconds' : Option ℕ) (t t' : Times) (end end' : SearchEnd)
    (text text' : List ℕ)
    → IsUntimed seconds end → IsUntimed seconds' end'
    → Sought p (with_seconds s seconds) t end text
    → Sought p (with_seconds s seconds') t' end' text'
    → (end ≡ end') × (text ≡ text')

-- so it is of an end of a run with these bytes, by its words and the input's options
abbrev pub IsUntimedRun : ModelOptions → List ℕ → SearchEnd → Type 0
IsUntimedRun words bytes end =
    (x : Posed) → poses Mace bytes x → IsUntimed (plan_of words x.options).seconds end

-- Two runs with the same bytes and the same words, but for the seconds, that come to such an end
-- come to the same one, and their sinks took the same text.
abbrev pub RunsEndAlike : Type 0
RunsEndAlike =
    (words : ModelOptions) (seconds seconds' : Option ℕ)
    (from from' source source' : Inflow) (to to' sink sink' : Outflow) (t t' : Times)
    (end end' : SearchEnd)
    (run : Searches (poses Mace) (refuses Mace) (words_with words seconds) from from' to to' t
    (Ok end))
    (again : Searches (poses Mace) (refuses Mace) (words_with words seconds') source source' sink
    sink' t' (Ok end'))
    → run.bytes ≡ again.bytes
    → IsUntimedRun (words_with words seconds) run.bytes end
    → IsUntimedRun (words_with words seconds') again.bytes end'
    → (end ≡ end') × ((text : List ℕ) × Takes to to' text × Takes sink sink' text)
