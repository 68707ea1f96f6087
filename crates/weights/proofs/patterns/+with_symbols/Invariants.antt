-- The first arguments are counted.
use Rattle.std.proofs.Common.{◌≡◌, ◌+◌}
use Rattle.weights.proofs.Counted.{with_arguments}
use Rattle.weights.proofs.patterns.+with_symbols.Given as goal

abbrev pub invariant-loop-term : goal.invariant-loop-term
invariant-loop-term l = l.weight ≡ with_arguments (l.before + 1) l.term-items l.term-index
