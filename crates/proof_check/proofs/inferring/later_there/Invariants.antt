-- The words from here on decide.
use Rattle.std.proofs.Common.{◌≡◌}
use Rattle.derivation.specs.View.{lines_of}
use Rattle.proof_check.proofs.InferSteps.{there_from}
use Rattle.proof_check.proofs.inferring.later_there.Given as goal

abbrev pub invariant-loop-word : goal.invariant-loop-word
invariant-loop-word l = there_from (lines_of l.earlier) l.words 0 ≡ there_from (lines_of l.earlier) l.words l.word-index
