-- the room so far is that of the formula under quantifiers for the variables from `at` on
use Rattle.std.proofs.Common.{◌≡◌, ◌≤◌, drop, length}
use Rattle.fol_core.specs.Fol.{Fol}
use Rattle.fol_core.specs.Free.{closed_over}
use Rattle.model_tables.specs.Variables.{room_of}
use Rattle.model_tables.proofs.room.behind_all.Given as goal

abbrev pub invariant-loop-at : goal.invariant-loop-at
invariant-loop-at l = (l.at ≤ length l.variables) × ((f : Fol) → l.room ≡ room_of f → l.all ≡ room_of (closed_over (drop l.at l.variables) f))

abbrev pub decreases-loop-at : goal.decreases-loop-at
decreases-loop-at l = l.at
