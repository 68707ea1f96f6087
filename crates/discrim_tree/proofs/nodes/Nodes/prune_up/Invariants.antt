-- The nodes are alike so far, and only nodes that lead to this one may be without use.
use Rattle.slab.specs.Slab.{slab_len}
use Rattle.discrim_tree.specs.Trees.{AllUsedBut, IsAlike, IsTree}
use Rattle.discrim_tree.proofs.nodes.Nodes.prune_up.Given as goal

abbrev pub invariant-loop-above : goal.invariant-loop-above
invariant-loop-above l = record {
  alike : IsAlike l.fn.self.items l.self.items;
  used : IsTree l.fn.self.items → AllUsedBut l.end l.fn.self.items → AllUsedBut l.at l.self.items;
}

abbrev pub decreases-loop-above : goal.decreases-loop-above
decreases-loop-above l = slab_len l.self.items
