-- What is left is behind the answers so far.
use Rattle.std.proofs.Common.{◌≡◌, ◌+◌}
use Rattle.answers.proofs.Measures.{answers_sizes_from}
use Rattle.answers.proofs.measure.left_behind_answers.Given as goal

abbrev pub invariant-loop-answer : goal.invariant-loop-answer
invariant-loop-answer l = l.left + answers_sizes_from l.answers 0 ≡ l.room + answers_sizes_from l.answers l.answer-index
