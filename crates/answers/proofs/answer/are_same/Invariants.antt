-- The terms left decide.
use Rattle.std.proofs.Common.{◌≡◌}
use Rattle.answers.proofs.Sameness.{same_from}
use Rattle.answers.proofs.answer.are_same.Given as goal

abbrev pub invariant-loop-i : goal.invariant-loop-i
invariant-loop-i l = same_from l.left l.right 0 ≡ same_from l.left l.right l.i
