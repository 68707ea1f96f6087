-- The words from here on come to what all do.
use Rattle.derivation.specs.View.{lines_of, content_of}
use Rattle.proof_check.proofs.InferSteps.{Following}
use Rattle.proof_check.proofs.inferring.after_shared.Given as goal

abbrev pub invariant-loop-word : goal.invariant-loop-word
invariant-loop-word l = Following (lines_of l.earlier) l.words l.fn.shared (content_of l.content) l.word-index l.shared
