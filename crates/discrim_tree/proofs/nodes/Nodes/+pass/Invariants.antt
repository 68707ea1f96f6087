-- The arguments from here on are left.
use Rattle.std.proofs.Common.{◌≤◌, length, ℕ, List, drop}
use Rattle.fol_core.specs.Tree.{trees_of}
use Rattle.fol_core.specs.TermView.{tree_list}
use Rattle.discrim_tree.specs.Walks.{GoesOn, PassesAll, ComesAll}
use Rattle.discrim_tree.proofs.nodes.Nodes.+pass.Given as goal

abbrev pub decreases-pass : goal.decreases-pass
decreases-pass l = goal.size-pass l

abbrev pub invariant-loop-term : goal.invariant-loop-term
invariant-loop-term l = record {
  on : GoesOn l.initial.walk.items l.walk.items;
  longer : length l.initial.walk.items ≤ length l.walk.items;
  within : l.next ≤ length l.walk.items;
  comes : (next : ℕ) (new : List ℕ)
      → ComesAll l.self.items l.below l.above (trees_of (tree_list (drop l.term-index l.term-items))) l.next l.walk.items next new
      → ComesAll l.self.items l.below l.above (trees_of (tree_list l.term-items)) l.high l.initial.walk.items next new;
  passes : (low : ℕ) (new : List ℕ) → GoesOn l.walk.items new
      → PassesAll l.self.items l.below l.above (trees_of (tree_list (drop l.term-index l.term-items))) l.next l.walk.items low new
      → PassesAll l.self.items l.below l.above (trees_of (tree_list l.term-items)) l.high l.initial.walk.items low new;
}
