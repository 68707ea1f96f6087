-- The answers so far are literals behind the others.
use Rattle.std.proofs.Common.{◌≡◌, ◌++◌}
use Rattle.answers.specs.AnswerView.{answers_of}
use Rattle.answers.specs.Packed.{packed}
use Rattle.answers.proofs.numbering.pack.Given as goal

abbrev pub invariant-loop-answer : goal.invariant-loop-answer
invariant-loop-answer l = l.clause ≡ l.fn.clause ++ packed (answers_of l.yielded)
