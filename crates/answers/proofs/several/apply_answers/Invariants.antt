-- The first answers are made.
use Rattle.std.proofs.Common.{◌≡◌, take}
use Rattle.answers.specs.AnswerTrees.{substitute_answers}
use Rattle.answers.specs.AnswerView.{answers_of}
use Rattle.substitutions.specs.Bindings.{by_bindings}
use Rattle.answers.proofs.several.apply_answers.Given as goal

abbrev pub invariant-loop-answer : goal.invariant-loop-answer
invariant-loop-answer l = answers_of l.made.items ≡ substitute_answers (by_bindings l.subst) (answers_of (take l.answer-index l.answers))
