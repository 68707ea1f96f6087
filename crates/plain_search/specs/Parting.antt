-- The leaves of the plain search are different tables, and solutions.
use Rattle.std.specs.Prelude.{ℕ, ◌≡◌, ◌<◌, ◌==◌, nat_lt, List, [], ◌∷◌}
use Rattle.std.specs.List.{AllByRecursion}
use Rattle.fol_core.specs.Meaning.{Meaning}
use Rattle.fol_core.specs.declared.symbols.Kind.TheVariants.{Function, Relation}
use Rattle.mace_cells.specs.World.{World, Solves, cell_of, many_cells}
use Rattle.mace_ground.specs.Cells.{cell}
use Rattle.plain_search.specs.Fitting.{IsClauseOfCells}
use Rattle.plain_search.specs.Lefts.{ValuesLeft, Extends, only_value}
use Rattle.plain_search.specs.PlainLaws.{IsOneOf}
use Rattle.plain_search.specs.Trying.{leaves}

-- none is one of those behind it
abbrev pub AreApart : List ValuesLeft → Type 0
AreApart [] = Unit {0}
AreApart (p ∷ ps) = (IsOneOf p ps → ⊥) × AreApart ps

abbrev pub LeavesDiffer : Type 0
LeavesDiffer = (w : World) → 0 < w.size → AreApart (leaves w)

-- two tables have the same values in the cells of a world
abbrev pub HaveSameValues : World → ValuesLeft → ValuesLeft → Type 0
HaveSameValues w p q =
    (k : ℕ) → k < many_cells w → only_value (p (cell_of w k)) ≡ only_value (q (cell_of w k))

-- none has the values of one behind it
abbrev pub ArePartedIn : World → List ValuesLeft → Type 0
ArePartedIn w [] = Unit {0}
ArePartedIn w (p ∷ ps) =
    ((q : ValuesLeft) → IsOneOf q ps → HaveSameValues w p q → ⊥) × ArePartedIn w ps

-- Already the values of the cells differ.
abbrev pub LeavesPart : Type 0
LeavesPart = (w : World) → 0 < w.size → ArePartedIn w (leaves w)

-- the first value that is left, 0 where none is
abbrev pub first_left : List ℕ → ℕ
first_left [] = 0
first_left (v ∷ vs) = v

-- the interpretation that has the first value left in each cell
abbrev pub meaning_at : World → ValuesLeft → Meaning
meaning_at w p =
    record {
      within = λ x. nat_lt x w.size;
      function = λ f xs. first_left (p (cell Function f xs));
      relation = λ r xs. first_left (p (cell Relation r xs)) == 1;
    }

-- Each leaf is a solution, where all terms of the clauses have cells.
abbrev pub LeavesSolve : Type 0
LeavesSolve =
    (w : World) (p : ValuesLeft) → 0 < w.size → AllByRecursion (IsClauseOfCells w) w.clauses
    → IsOneOf p (leaves w)
    → Solves w (meaning_at w p) × Extends w.size (meaning_at w p) p
