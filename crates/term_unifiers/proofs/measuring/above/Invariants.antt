-- What is kept of the first arguments.
use Rattle.std.proofs.Common.{◌≡◌, ◌+◌, take}
use Rattle.std.specs.List.{sum_by}
use Rattle.fol_core.specs.Sizes.{saturated}
use Rattle.term_unifiers.specs.Measures.{greatest, size_at, depth_at}
use Rattle.term_unifiers.proofs.measuring.above.Given as goal

abbrev pub invariant-loop-argument : goal.invariant-loop-argument
invariant-loop-argument l = record {
  sized : l.size ≡ saturated (sum_by (size_at l.links l.measures) (take l.argument-index l.arguments) + 1);
  deep : saturated l.depth ≡ saturated (greatest (depth_at l.links l.measures) (take l.argument-index l.arguments));
}
