-- What the clauses say, in every interpretation.
use Rattle.std.specs.Prelude.{ℕ, List, map}
use Rattle.fol_core.specs.Literals.{AreTrueClauses, equality}
use Rattle.fol_core.specs.Meaning.{Meaning}
use Rattle.fol_problem.specs.Stated.{Said, AreWellFormed, IsCountermodel}
use Rattle.fol_core.specs.SkolemAxioms.{PicksWitnesses}
use Rattle.clausify.specs.Input.{ClauseRow, all_rows, all_skolem_axioms}

-- each of the clauses is true
abbrev pub AreTrueRows : Meaning → List ClauseRow → Type 0
AreTrueRows m rows = AreTrueClauses m (map (λ r. r.1) rows)

-- where all clauses are true, each assumption is true and each goal false, whatever the Skolem
-- symbols are
abbrev pub ClausesSuffice : Meaning → Type 0
ClausesSuffice m =
    (symbols : List ℕ) (ss : List Said) → AreWellFormed equality ss →
    AreTrueRows m (all_rows symbols ss) → IsCountermodel m ss

-- and the converse, where their values are witnesses
abbrev pub ClausesFollow : Meaning → Type 0
ClausesFollow m =
    (symbols : List ℕ) (ss : List Said) → AreWellFormed equality ss →
    PicksWitnesses m (all_skolem_axioms symbols ss) → IsCountermodel m ss →
    AreTrueRows m (all_rows symbols ss)
