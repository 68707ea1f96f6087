-- The first literals are counted.
use Rattle.std.proofs.Common.{◌≡◌}
use Rattle.subsume.proofs.Standing.{stands_first}
use Rattle.subsume.proofs.room.standing.Given as goal

abbrev pub invariant-loop-literal : goal.invariant-loop-literal
invariant-loop-literal l = l.count ≡ stands_first l.literal-items l.literal-index
