-- The first nodes are there.
use Rattle.std.proofs.Common.{◌≤◌}
use Rattle.discrim_tree.specs.Walks.{StartsAt, StartOnly}
use Rattle.discrim_tree.proofs.walk.starts.Given as goal

abbrev pub invariant-loop-i : goal.invariant-loop-i
invariant-loop-i l = record {
  from : l.low ≤ l.i;
  all : StartsAt l.low l.i l.walk l.waiting.items;
  only : StartOnly l.low l.walk l.waiting.items;
}
