-- What the tables of the plain search say of the solutions that agree with decisions.
use Rattle.std.specs.Prelude.{ℕ, ◌≡◌, ◌<◌, nat_lt, true, List, [], ◌∷◌, Option, None, Some}
use Rattle.std.specs.List.{AllByRecursion}
use Rattle.fol_core.specs.Meaning.{Meaning, IsLawful}
use Rattle.mace_cells.specs.Choices.{Decision, IsUndecided}
use Rattle.mace_cells.specs.Numbers.{greatest_tried}
use Rattle.mace_cells.specs.Solutions.{CoversIsomorphic}
use Rattle.mace_cells.specs.World.{World, IsSettled, IsRefuted, IsBound, IsNextValue, cell_of, many_cells}
use Rattle.mace_ground.specs.Cells.{Cell}
use Rattle.model_tables.specs.Size.{AllBelow}
use Rattle.plain_search.specs.Coming.{closed_behind, IsFirst}
use Rattle.plain_search.specs.Fitting.{IsClauseOfCells}
use Rattle.plain_search.specs.Lefts.{ValuesLeft, IsAmong, Extends}
use Rattle.plain_search.specs.PlainLaws.{IsOneOf}
use Rattle.plain_search.specs.Trying.{is_open, chosen, leaves}

-- each decision gave a cell one of the values that it had left then
abbrev pub WereLeft : World → List Decision → Type 0
WereLeft w [] = Unit {0}
WereLeft w (d ∷ ds) =
    ((p : ValuesLeft) × ((closed_behind w ds ≡ Some p) × IsAmong d.value (p d.cell)))
    × AllBelow w.size d.cell.arguments × WereLeft w ds

-- No solution agrees with decisions behind which closing meets a contradiction.
abbrev pub RefutedBySearch : Type 0
RefutedBySearch = (w : World) (ds : List Decision) → closed_behind w ds ≡ None → IsRefuted w ds

-- None that agrees with decisions has a value that isn't left in their table.
abbrev pub NextBySearch : Type 0
NextBySearch =
    (w : World) (ds : List Decision) (p : ValuesLeft) (c : Cell) (from most : ℕ)
    (o : Option ℕ) → closed_behind w ds ≡ Some p → AllBelow w.size c.arguments
    → IsFirst (p c) from most o → IsNextValue w ds c from most o

-- An open cell was not decided.
abbrev pub UndecidedBySearch : Type 0
UndecidedBySearch =
    (w : World) (ds : List Decision) (p : ValuesLeft) (c : Cell) → 0 < w.size → WereLeft w ds
    → closed_behind w ds ≡ Some p → is_open (p c) ≡ true → IsUndecided ds c

-- Where no cell is open, what extends the table is the solution that agrees with the decisions.
abbrev pub SettledBySearch : Type 0
SettledBySearch =
    (w : World) (ds : List Decision) (p : ValuesLeft) (m : Meaning) → 0 < w.size
    → AllByRecursion (IsClauseOfCells w) w.clauses → WereLeft w ds → closed_behind w ds ≡ Some p
    → chosen w ds p ≡ None → ((x : ℕ) → m.within x ≡ nat_lt x w.size) → IsLawful m
    → Extends w.size m p → IsSettled w ds m

-- each solution that agrees with decisions is isomorphic to one that does, and has in a cell a value
-- that is tried
abbrev pub AllBound : World → Type 0
AllBound w =
    (ds : List Decision) (k : ℕ) → k < many_cells w
    → IsBound w ds (cell_of w k) (greatest_tried w ds (cell_of w k))

-- Then each solution is isomorphic to one that extends a leaf.
abbrev pub LeavesCover : Type 0
LeavesCover =
    (w : World) → AllBound w
    → CoversIsomorphic w.size w.clauses w.fixed (λ m. Unit {0})
    (λ m. (p : ValuesLeft) × (IsOneOf p (leaves w) × Extends w.size m p))
