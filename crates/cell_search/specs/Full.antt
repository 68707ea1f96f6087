-- Partial tables that give each cell a value.
use Rattle.std.specs.Prelude.{ℕ, ◌≡◌, ◌<◌, ◌≤◌, List, Some}
use Rattle.std.specs.List.{AllByRecursion}
use Rattle.fol_core.specs.Literals.{ClauseTree}
use Rattle.mace_cells.specs.Trails.{value_in}
use Rattle.mace_cells.specs.World.{World, cell_of, many_cells}
use Rattle.mace_cells.specs.declared.trail.TrailEntry.{TrailEntry}
use Rattle.model_tables.specs.Size.{bound_of}
use Rattle.mace_ground.specs.Instances.{variables_in}

-- a cell has a value, and one that it can have; so has each cell
abbrev pub HasProperValue : World → List TrailEntry → ℕ → Type 0
HasProperValue w es k =
    (v : ℕ) × ((value_in es k ≡ Some v) × (v < bound_of w.size (cell_of w k).kind))

abbrev pub IsFull : World → List TrailEntry → Type 0
IsFull w es = (k : ℕ) → k < many_cells w → HasProperValue w es k

-- so many variables suffice for each of the clauses
abbrev pub HaveVariables : List ClauseTree → ℕ → Type 0
HaveVariables cs n = AllByRecursion (λ c. variables_in c ≤ n) cs
