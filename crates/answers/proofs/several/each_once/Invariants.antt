-- The answers so far, each once, are kept.
use Rattle.std.proofs.Common.{◌≡◌, []}
use Rattle.answers.specs.AnswerTrees.{all_added}
use Rattle.answers.specs.AnswerView.{answers_of}
use Rattle.answers.proofs.several.each_once.Given as goal

abbrev pub invariant-loop-answer : goal.invariant-loop-answer
invariant-loop-answer l = answers_of l.kept.items ≡ all_added [] (answers_of l.yielded)
