-- The words from here on come to what all do.
use Rattle.answers.specs.AnswerView.{answers_of}
use Rattle.derivation.specs.View.{content_of}
use Rattle.proof_check.proofs.CarryingSteps.{Carrying}
use Rattle.proof_check.proofs.carrying.carry.Given as goal

abbrev pub invariant-loop-word : goal.invariant-loop-word
invariant-loop-word l = Carrying l.earlier (content_of l.line.content) (answers_of l.line.notes.answers.items) l.words l.fn.carried l.word-index l.carried
