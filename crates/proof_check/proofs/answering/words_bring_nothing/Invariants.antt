-- The words from here on decide.
use Rattle.answered_lines.specs.View.{answered_lines_of}
use Rattle.proof_check.proofs.AnsweringSteps.{Silent}
use Rattle.proof_check.proofs.answering.words_bring_nothing.Given as goal

abbrev pub invariant-loop-word : goal.invariant-loop-word
invariant-loop-word l = Silent (answered_lines_of l.earlier) l.words l.word-index
