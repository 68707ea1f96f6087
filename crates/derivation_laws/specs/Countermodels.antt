-- What a refutation of a problem shows, in every interpretation.
use Rattle.std.specs.Prelude.{◌≡◌, ◌≤◌, ℕ, List, length}
use Rattle.fol_core.specs.Literals.{equality}
use Rattle.fol_core.specs.Meaning.{Meaning, IsLawful}
use Rattle.fol_core.specs.SkolemAxioms.{PicksWitnesses}
use Rattle.fol_problem.specs.Stated.{Said, Stated, AreWellFormed, IsWellFormed, IsCountermodel}
use Rattle.fol_core.specs.SymbolTable.{Symbol}
use Rattle.clausify.specs.Input.{ClauseRow, all_rows, all_skolem_axioms, clauses_in_table, axioms_in_table}
use Rattle.derivation.specs.Laws.{LinesNameWithin}
use Rattle.derivation.specs.Lines.{LineTree, IsRefutation}

-- where there is a refutation, no interpretation that has the elements which its lines name, and
-- whose Skolem symbols pick witnesses, makes each assumption true and each goal false
abbrev pub RefutationsLeaveNone : Meaning → Type 0
RefutationsLeaveNone m =
    (symbols : List ℕ) (ss : List Said) (ls : List LineTree) → AreWellFormed equality ss →
    IsRefutation ss (all_rows symbols ss) ls
    → LinesNameWithin m ls → PicksWitnesses m (all_skolem_axioms symbols ss) → ¬ IsCountermodel m ss

-- these lines leave no such interpretation of what is stated, whose clauses these are
abbrev pub LeaveNone : Stated → List ClauseRow → List LineTree → Type 0
LeaveNone p rows ls =
    (m : Meaning) (table : List Symbol) → IsLawful m → IsWellFormed p → length p.symbols ≤ equality
    → rows ≡ clauses_in_table table p
    → LinesNameWithin m ls → PicksWitnesses m (axioms_in_table table p) →
    ¬ IsCountermodel m p.formulas

-- so does each refutation of what is stated
abbrev pub RefutedHaveNone : Type 0
RefutedHaveNone =
    (p : Stated) (rows : List ClauseRow) (ls : List LineTree) → IsRefutation p.formulas rows ls →
    LeaveNone p rows ls
