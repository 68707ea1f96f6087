-- How a run of `prover9` ends, and what it prints.
use Rattle.std.specs.Prelude.{ℕ, ◌≡◌, ◌<◌, ◌^◌, ◌⊎◌, length, List, [], ◌++◌, Option, Some, None}
use Rattle.std.specs.declared.result.Result.{Result}
use Rattle.clausify.specs.Input.{first_over}
use Rattle.ladr_formulas.specs.declared.styles.Mode.TheVariants.{Prover}
use Rattle.ladr_intake.specs.Command.{Runs}
use Rattle.ladr_intake.specs.Refusals.{refuses, clause_limit_line}
use Rattle.ladr_intake.specs.declared.stops.Stop.{Stop}
use Rattle.ladr_io.specs.Streams.{Inflow, Outflow}
use Rattle.ladr_io.specs.Times.{Times}
use Rattle.ladr_prover9.specs.Lines.{closing_lines}
use Rattle.ladr_prover9.specs.Quests.{Quest, asks, quest_seconds}
use Rattle.ladr_prover9.specs.Story.{ProofsGo, ProofsCome}
use Rattle.ladr_prover9.specs.declared.ends.ProverEnd.{ProverEnd}
use Rattle.ladr_prover9.specs.declared.ends.ProverEnd.TheVariants.{ClauseLimit}
use Rattle.prover_setup.specs.SearchInputs.{witnesses_in}
use Rattle.prover_steps.specs.Searching.{SearchState}

-- the first formula that gives too many clauses, if there is one
abbrev pub over_limit : Quest → Option ℕ
over_limit q = first_over 1 q.search.stated.formulas

-- no formula gives too many clauses, and there are fewer Skolem symbols than 2 ^ 63
pub record KeepsLimits (q : Quest) : Type 0 where
  pub clauses : over_limit q ≡ None
  pub witnesses : length (witnesses_in q.search) < 2 ^ 63

-- The search for proofs comes to this end, with this text as the whole output: the first formula
-- that has too many clauses is named, and nothing is searched, nor the clock read; or the search
-- has come to its end, and the last lines are printed.
abbrev pub Proves : Quest → Option ℕ → Times → ProverEnd → List ℕ → Type 0
Proves q seconds times (ClauseLimit formula) text =
    (over_limit q ≡ Some formula) × (times.count ≡ 0) × (text ≡ clause_limit_line formula)
Proves q seconds times end text =
    KeepsLimits q
    × ((t : SearchState) × ((front : List ℕ) × ProofsCome q seconds times end t front
    × (text ≡ front ++ closing_lines t end)))

-- It goes on, with this text so far: nothing is printed yet, nor the clock read; or proofs are
-- searched for; or the search has come to an end, and the last lines are still to be printed.
abbrev pub Proving : Quest → Option ℕ → Times → List ℕ → Type 0
Proving q seconds times text =
    ((text ≡ []) × (times.count ≡ 0))
    ⊎ (KeepsLimits q
    × (ProofsGo q seconds times text
    ⊎ ((end : ProverEnd) × ((t : SearchState) × ProofsCome q seconds times end t text))))

-- A run of `prover9` with this word, if it sets a time. The clock gave nothing where there is no
-- problem.
abbrev pub Refutes : Option ℕ → Inflow → Inflow → Outflow → Outflow → Times →
    Result ProverEnd Stop → Type 0
Refutes word from from' to to' times =
    Runs asks (refuses Prover) (times.count ≡ 0)
    (λ q. Proving q (quest_seconds word q) times)
    (λ q. Proves q (quest_seconds word q) times) from from' to to'
