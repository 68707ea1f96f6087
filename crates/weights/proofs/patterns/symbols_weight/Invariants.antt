-- The first literals are counted.
use Rattle.std.proofs.Common.{◌≡◌}
use Rattle.weights.proofs.Counted.{of_literals}
use Rattle.weights.proofs.patterns.symbols_weight.Given as goal

abbrev pub invariant-loop-literal : goal.invariant-loop-literal
invariant-loop-literal l = l.weight ≡ of_literals l.literal-items l.literal-index
