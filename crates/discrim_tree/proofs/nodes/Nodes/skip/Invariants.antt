-- What was ahead is reached, or still is.
use Rattle.std.proofs.Common.{◌≤◌, ℕ, length}
use Rattle.discrim_tree.specs.Walks.{GoesOn, IsBeyond, IsFrom}
use Rattle.discrim_tree.proofs.WalkSteps.{SkipsOn}
use Rattle.discrim_tree.proofs.nodes.Nodes.skip.Given as goal

abbrev pub invariant-loop-step : goal.invariant-loop-step
invariant-loop-step l = record {
  on : GoesOn l.fn.walk.items l.walk.items;
  longer : length l.fn.walk.items ≤ length l.walk.items;
  beyond : (to : ℕ) → IsFrom (length l.fn.walk.items) l.walk.items to → IsBeyond l.self.items l.fn.waiting.items to;
  waits : (to : ℕ) → IsBeyond l.self.items l.waiting.items to → IsBeyond l.self.items l.fn.waiting.items to;
  skips : SkipsOn l.self.items l.fn.waiting.items (length l.fn.walk.items) l.walk.items l.waiting.items;
}
