-- the steps so far
use Rattle.std.proofs.Common.{◌≡◌}
use Rattle.ladr_made.specs.Chain.{steps_before}
use Rattle.ladr_made.proofs.chain.steps_before.Given as goal

abbrev pub invariant-loop-k : goal.invariant-loop-k
invariant-loop-k l = l.out.items ≡ steps_before l.k
