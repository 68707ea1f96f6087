-- What is left, and what the satellites from here on leave, is all.
use Rattle.std.proofs.Common.{◌≡◌, ◌++◌}
use Rattle.inference.specs.Left.{all_left}
use Rattle.inference.proofs.ClashSteps.{left_behind}
use Rattle.inference.proofs.applying.clash_left.Given as goal

abbrev pub invariant-loop-i : goal.invariant-loop-i
invariant-loop-i l = all_left l.left.items ++ left_behind l.satellites l.parents l.i ≡ all_left l.initial.left.items ++ left_behind l.satellites l.parents 0
