-- The first literals are left.
use Rattle.std.proofs.Common.{◌≡◌, ◌++◌, map, take}
use Rattle.carried_answers.proofs.starting.leave_clause.Given as goal
use Rattle.fol_core.specs.ClauseView.{literal_of}
use Rattle.inference.specs.Left.{all_left, all_whole}

abbrev pub invariant-loop-literal : goal.invariant-loop-literal
invariant-loop-literal l = all_left l.left.items ≡ all_left l.fn.left.items ++ all_whole l.parent (map literal_of (take l.literal-index l.literal-items))
