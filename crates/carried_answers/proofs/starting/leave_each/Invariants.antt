-- Those of the first clauses are left.
use Rattle.std.proofs.Common.{◌≡◌, ◌++◌, take}
use Rattle.carried_answers.specs.Begun.{each_whole}
use Rattle.carried_answers.proofs.starting.leave_each.Given as goal
use Rattle.inference.specs.Left.{all_left}

abbrev pub invariant-loop-i : goal.invariant-loop-i
invariant-loop-i l = all_left l.left.items ≡ all_left l.fn.left.items ++ each_whole 0 (take l.i l.clauses)
