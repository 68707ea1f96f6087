-- A term in others is smaller; what the terms from here on add.
use Rattle.std.proofs.Common.{◌≡◌, ◌+◌, ◌*◌, ◌≤◌, drop, map, vec_len, vec_capacity}
use Rattle.fol_core.specs.Sizes.{sizes_of}
use Rattle.fol_core.specs.TermView.{tree_of, tree_list}
use Rattle.fol_core.specs.Tree.{nodes, nodes_of, trees_of}
use Rattle.weights.specs.Rows.{weight_row}
use Rattle.weights.proofs.Weighed.{listed_from, sum_from}
use Rattle.weights.proofs.patterns.+weigh.Given as goal

abbrev pub decreases-weigh : goal.decreases-weigh
decreases-weigh l = 4 * nodes (tree_of l.term.now) + 1

abbrev pub decreases-weigh_below : goal.decreases-weigh_below
decreases-weigh_below l = 4 * nodes (tree_of l.term.now)

abbrev pub decreases-application_weight : goal.decreases-application_weight
decreases-application_weight l = 4 * nodes_of (trees_of l.terms.now) + 3

abbrev pub decreases-weigh_all : goal.decreases-weigh_all
decreases-weigh_all l = 4 * nodes_of (trees_of l.terms.now) + 2

abbrev pub invariant-weigh_all-loop-term : goal.invariant-weigh_all-loop-term
invariant-weigh_all-loop-term l = record {
  sum : sum_from (map weight_row l.rules) 0 l.term-items 0 ≡ sum_from (map weight_row l.rules) l.sum l.term-items l.term-index;
  most : l.sum ≤ 2147483647;
  listed : listed_from (map weight_row l.rules) l.fn.weights.items l.term-items 0 ≡ listed_from (map weight_row l.rules) l.weights.items l.term-items l.term-index;
  len : vec_len l.weights + sizes_of (trees_of (tree_list (drop l.term-index l.term-items))) ≡ vec_len l.fn.weights + sizes_of (trees_of (tree_list l.term-items));
  room : vec_capacity l.weights ≡ vec_capacity l.fn.weights;
  bindings : l.found.room ≡ l.fn.found.room;
}
