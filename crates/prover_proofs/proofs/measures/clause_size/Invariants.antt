-- The sum, with the literals from here on.
use Rattle.std.proofs.Common.{◌≡◌, ◌+◌}
use Rattle.prover_proofs.proofs.Remaining.{literals_from}
use Rattle.prover_proofs.proofs.measures.clause_size.Given as goal

abbrev pub invariant-loop-literal : goal.invariant-loop-literal
invariant-loop-literal l = l.sum + literals_from l.literal-items l.literal-index ≡ literals_from l.literal-items 0
