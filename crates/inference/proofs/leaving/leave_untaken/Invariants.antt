-- What is left and what the literals from here on leave is all.
use Rattle.std.proofs.Common.{◌≡◌, ◌++◌}
use Rattle.inference.specs.Left.{all_left}
use Rattle.inference.proofs.LeaveSteps.{untaken_from}
use Rattle.inference.proofs.leaving.leave_untaken.Given as goal

abbrev pub invariant-loop-place : goal.invariant-loop-place
invariant-loop-place l = all_left l.left.items ++ untaken_from l.satellites l.literal-items l.place ≡ all_left l.fn.left.items ++ untaken_from l.satellites l.literal-items 0
