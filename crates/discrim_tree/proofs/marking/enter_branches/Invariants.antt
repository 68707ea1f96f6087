-- The branches that are left, and those that came.
use Rattle.std.proofs.Common.{drop}
use Rattle.discrim_tree.specs.Marks.{AreAmong}
use Rattle.discrim_tree.proofs.Marked.{AreLeft, HasEntered}
use Rattle.discrim_tree.proofs.marking.enter_branches.Given as goal

abbrev pub invariant-loop-edge : goal.invariant-loop-edge
invariant-loop-edge l = record {
  kept : AreAmong l.fn.waiting.items l.waiting.items;
  enters : AreLeft (HasEntered l.marks l.waiting.items) l.branches (drop l.edge-index l.branches);
}
