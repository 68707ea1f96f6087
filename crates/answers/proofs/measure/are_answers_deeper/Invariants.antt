-- The answers left decide.
use Rattle.std.proofs.Common.{◌≡◌}
use Rattle.answers.proofs.Measures.{answers_deeper_from}
use Rattle.answers.proofs.measure.are_answers_deeper.Given as goal

abbrev pub invariant-loop-answer : goal.invariant-loop-answer
invariant-loop-answer l = answers_deeper_from l.levels l.answers 0 ≡ answers_deeper_from l.levels l.answers l.answer-index
