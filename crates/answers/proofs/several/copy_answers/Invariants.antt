-- The first answers are copied.
use Rattle.std.proofs.Common.{◌≡◌, take}
use Rattle.answers.specs.AnswerView.{answers_of}
use Rattle.answers.proofs.several.copy_answers.Given as goal

abbrev pub invariant-loop-answer : goal.invariant-loop-answer
invariant-loop-answer l = answers_of l.copies.items ≡ answers_of (take l.answer-index l.answers)
