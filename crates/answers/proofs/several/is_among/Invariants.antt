-- The answers left decide.
use Rattle.std.proofs.Common.{◌≡◌}
use Rattle.answers.specs.AnswerView.{answer_of}
use Rattle.answers.proofs.Among.{among_from}
use Rattle.answers.proofs.several.is_among.Given as goal

abbrev pub invariant-loop-one : goal.invariant-loop-one
invariant-loop-one l = among_from (answer_of l.answer) l.some 0 ≡ among_from (answer_of l.answer) l.some l.one-index
