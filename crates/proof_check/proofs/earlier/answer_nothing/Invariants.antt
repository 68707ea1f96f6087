-- The numbers from here on decide.
use Rattle.answered_lines.specs.View.{answered_lines_of}
use Rattle.proof_check.proofs.EarlierSteps.{Quiet}
use Rattle.proof_check.proofs.earlier.answer_nothing.Given as goal

abbrev pub invariant-loop-number : goal.invariant-loop-number
invariant-loop-number l = Quiet (answered_lines_of l.earlier) l.numbers l.number-index
