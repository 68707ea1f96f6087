-- The tables of the leaves of the plain search.
use Rattle.std.specs.Prelude.{map}
use Rattle.mace_cells.specs.Solutions.{CoversIsomorphic}
use Rattle.mace_cells.specs.World.{World, Solves, AreAlike}
use Rattle.mace_search.specs.Complete.{AreDifferent}
use Rattle.model_tables.specs.Tables.{meaning_of}
use Rattle.plain_search.specs.Lefts.{ValuesLeft}
use Rattle.plain_search.specs.PlainLaws.{IsOneOf}
use Rattle.plain_search.specs.Trying.{leaves}
use Rattle.cell_search.specs.Finites.{AreTablesFor, finite_at}
use Rattle.cell_search.specs.Searchable.{HasAllCells}

-- They have a value for each cell, and are a solution.
abbrev pub LeafTablesSolve : Type 0
LeafTablesSolve =
    (w : World) (p : ValuesLeft) → HasAllCells w → IsOneOf p (leaves w)
    → AreTablesFor w (finite_at w p) × Solves w (meaning_of (finite_at w p))

-- No two are the same.
abbrev pub LeafTablesDiffer : Type 0
LeafTablesDiffer = (w : World) → HasAllCells w → AreDifferent (map (finite_at w) (leaves w))

-- Each solution is isomorphic to one with the values of a leaf's tables.
abbrev pub LeafTablesCover : Type 0
LeafTablesCover =
    (w : World) → HasAllCells w
    → CoversIsomorphic w.size w.clauses w.fixed (λ m. Unit {0})
    (λ m. (p : ValuesLeft) × (IsOneOf p (leaves w) × AreAlike w m (meaning_of (finite_at w p))))
