-- The numbers in use, and up to which value a cell is tried.
use Rattle.std.specs.Prelude.{ℕ, suc, ◌-◌, min, max, Bool, true, false, List, [], ◌∷◌}
use Rattle.fol_core.specs.declared.symbols.Kind.{Kind}
use Rattle.fol_core.specs.declared.symbols.Kind.TheVariants.{Function, Relation}
use Rattle.mace_cells.specs.Choices.{Decision}
use Rattle.mace_cells.specs.World.{World}
use Rattle.mace_ground.specs.Cells.{Cell}
use Rattle.model_tables.specs.Size.{bound_of}

-- the least number above each of a list, 0 where it is empty
abbrev pub above_each : List ℕ → ℕ
above_each [] = 0
above_each (x ∷ xs) = max (suc x) (above_each xs)

-- the least number above the value of a decision and the arguments of its cell
abbrev pub above_decision : Decision → ℕ
above_decision d = max (suc d.value) (above_each d.cell.arguments)

-- The least number above all that are in use: those of decisions, and the numerals, which stand
-- below the first number.
abbrev pub above_used : ℕ → List Decision → ℕ
above_used fixed [] = fixed
above_used fixed (d ∷ ds) = max (above_decision d) (above_used fixed ds)

-- the greatest value of a cell of this kind that is tried where there are n elements, if no number
-- from `free` on is in use
abbrev pub tried_to : Bool → ℕ → Kind → ℕ → ℕ
tried_to false n kind free = bound_of n kind - 1
tried_to true n Function free = min free (n - 1)
tried_to true n Relation free = bound_of n Relation - 1

-- Up to which value a cell is tried behind some decisions: the greatest that it can have; by the
-- least-number heuristic that of a function only up to the least number above those in use and the
-- cell's arguments.
abbrev pub greatest_tried : World → List Decision → Cell → ℕ
greatest_tried w ds c =
    tried_to w.way.least_numbers w.size c.kind
    (max (above_used w.fixed ds) (above_each c.arguments))
