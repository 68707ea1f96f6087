-- the arguments so far, and those that are left
use Rattle.std.proofs.Common.{◌≡◌, ◌^◌, ◌<◌, ◌≤◌, max}
use Rattle.mace_ground.specs.Cells.{digits}
use Rattle.mace_cells.specs.Numbers.{above_each}
use Rattle.cell_choice.proofs.shape.above_digits.Given as goal

abbrev pub invariant-loop-left : goal.invariant-loop-left
invariant-loop-left l = record {
  step : l.step ≡ l.size ^ l.left;
  rest : l.rest < l.step;
  above : max l.above (above_each (digits l.size l.left l.rest)) ≡ above_each (digits l.size l.arity l.place);
  fits : l.above ≤ l.size;
}

abbrev pub decreases-loop-left : goal.decreases-loop-left
decreases-loop-left l = l.left
