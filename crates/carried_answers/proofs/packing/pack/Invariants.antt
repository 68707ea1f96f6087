-- The first answers stand behind.
use Rattle.std.proofs.Common.{◌≡◌, ◌++◌, take}
use Rattle.answers.specs.AnswerView.{answers_of}
use Rattle.answers.specs.Packed.{packed}
use Rattle.carried_answers.proofs.packing.pack.Given as goal

abbrev pub invariant-loop-answer : goal.invariant-loop-answer
invariant-loop-answer l = l.clause ≡ l.fn.clause ++ packed (answers_of (take l.answer-index l.answers))
