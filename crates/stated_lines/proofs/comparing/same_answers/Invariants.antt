-- The first answers are the same.
use Rattle.std.proofs.Common.{◌≡◌, take}
use Rattle.answers.specs.AnswerView.{answers_of}
use Rattle.stated_lines.proofs.comparing.same_answers.Given as goal

abbrev pub invariant-loop-i : goal.invariant-loop-i
invariant-loop-i l = answers_of (take l.i l.left) ≡ answers_of (take l.i l.right)
