-- What closing and trying come to, and that they lose nothing.
use Rattle.std.specs.Prelude.{ℕ, ◌≡◌, ◌<◌, ◌≤◌, ◌⊎◌, max, nat_lt, false, List, [], ◌∷◌, length, None, Some}
use Rattle.std.specs.List.{AllByRecursion}
use Rattle.fol_core.specs.Meaning.{Meaning, IsLawful}
use Rattle.mace_cells.specs.World.{World, Solves, cell_of, many_cells}
use Rattle.mace_ground.specs.Cells.{Cell}
use Rattle.plain_search.specs.Closing.{pass, instances_of, closure}
use Rattle.plain_search.specs.Fitting.{IsClauseOfCells}
use Rattle.plain_search.specs.Lefts.{ValuesLeft, Extends, all_left, only_value}
use Rattle.plain_search.specs.Trying.{leaves}

-- a solution that extends a partial table extends its closure
abbrev pub ClosureKeeps : Type 0
ClosureKeeps =
    (w : World) (m : Meaning) (p q : ValuesLeft) → Solves w m → Extends w.size m p
    → closure w p ≡ Some q → Extends w.size m q

-- where closure meets a contradiction no solution extends the partial table
abbrev pub ContradictionsRefute : Type 0
ContradictionsRefute =
    (w : World) (m : Meaning) (p : ValuesLeft) → Solves w m → Extends w.size m p
    → closure w p ≡ None → ⊥

-- closed is what a pass changes nothing of
abbrev pub IsClosed : World → ValuesLeft → Type 0
IsClosed w p = pass w.size (instances_of w.size w.clauses) p ≡ Some p

-- no cell has more values left than any cell can have
abbrev pub IsSmall : World → ValuesLeft → Type 0
IsSmall w p = (c : Cell) → length (p c) ≤ max w.size 2

-- where all terms of the clauses have cells, the closure of a partial table is closed
abbrev pub ClosureIsClosed : Type 0
ClosureIsClosed =
    (w : World) (p q : ValuesLeft) → AllByRecursion (IsClauseOfCells w) w.clauses → IsSmall w p
    → closure w p ≡ Some q → IsClosed w q

-- each solution extends the partial table that the search begins with
abbrev pub AllAtFirst : Type 0
AllAtFirst = (w : World) (m : Meaning) → Solves w m → Extends w.size m (all_left w)

abbrev pub IsOneOf : ValuesLeft → List ValuesLeft → Type 0
IsOneOf p [] = ⊥
IsOneOf p (q ∷ qs) = (p ≡ q) ⊎ IsOneOf p qs

-- where all values are tried, each solution extends a leaf
abbrev pub LeavesReachAll : Type 0
LeavesReachAll =
    (w : World) (m : Meaning) → w.way.least_numbers ≡ false → Solves w m
    → (p : ValuesLeft) × IsOneOf p (leaves w) × Extends w.size m p

-- where all terms of the clauses have cells, each interpretation that extends a leaf is a solution
abbrev pub LeavesAreModels : Type 0
LeavesAreModels =
    (w : World) (p : ValuesLeft) (m : Meaning) → AllByRecursion (IsClauseOfCells w) w.clauses
    → IsOneOf p (leaves w) → ((x : ℕ) → m.within x ≡ nat_lt x w.size) → IsLawful m
    → Extends w.size m p → Solves w m

-- and each cell of a leaf has one value left
abbrev pub LeavesAreFull : Type 0
LeavesAreFull =
    (w : World) (p : ValuesLeft) (k : ℕ) → 0 < w.size
    → AllByRecursion (IsClauseOfCells w) w.clauses → IsOneOf p (leaves w) → k < many_cells w
    → (v : ℕ) × (only_value (p (cell_of w k)) ≡ Some v)
