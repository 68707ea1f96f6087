-- The sum, with the arguments from here on.
use Rattle.std.proofs.Common.{◌≡◌, ◌+◌}
use Rattle.prover_proofs.proofs.Remaining.{terms_from}
use Rattle.prover_proofs.proofs.measures.+size_of.Given as goal

abbrev pub invariant-loop-term : goal.invariant-loop-term
invariant-loop-term l = l.sum + terms_from l.term-items l.term-index ≡ 1 + terms_from l.term-items 0
