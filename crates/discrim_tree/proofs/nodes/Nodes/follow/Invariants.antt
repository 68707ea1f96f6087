-- The first nodes are followed.
use Rattle.std.proofs.Common.{◌≤◌, length}
use Rattle.discrim_tree.specs.Walks.{GoesOn, Follows, Came}
use Rattle.discrim_tree.proofs.nodes.Nodes.follow.Given as goal

abbrev pub invariant-loop-i : goal.invariant-loop-i
invariant-loop-i l = record {
  on : GoesOn l.fn.walk.items l.walk.items;
  longer : length l.fn.walk.items ≤ length l.walk.items;
  from : l.low ≤ l.i;
  came : Came l.self.items l.low l.high l.edge l.fn.walk.items l.walk.items;
  follows : Follows l.self.items l.low l.i l.edge l.fn.walk.items l.walk.items;
}
