-- The words from here on come to what all do.
use Rattle.derivation.specs.View.{lines_of, content_of}
use Rattle.proof_check.proofs.InferSteps.{Following}
use Rattle.proof_check.proofs.inferring.after.Given as goal

abbrev pub invariant-loop-i : goal.invariant-loop-i
invariant-loop-i l = Following (lines_of l.earlier) l.words l.fn.clause (content_of l.content) l.i l.clause
