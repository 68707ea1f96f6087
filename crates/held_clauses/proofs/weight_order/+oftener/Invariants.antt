-- Parts are smaller; the terms from here on decide.
use Rattle.std.proofs.Common.{◌≡◌, ◌+◌, ◌*◌}
use Rattle.fol_core.specs.TermView.{tree_of, tree_list}
use Rattle.fol_core.specs.Tree.{nodes, nodes_of, trees_of}
use Rattle.term_order.specs.Kbo.{none_oftener_all}
use Rattle.held_clauses.proofs.Weights.{terms_from}
use Rattle.held_clauses.proofs.weight_order.+oftener.Given as goal

abbrev pub decreases-none_oftener : goal.decreases-none_oftener
decreases-none_oftener l = 2 * nodes (tree_of l.u.now)

abbrev pub decreases-none_oftener_among : goal.decreases-none_oftener_among
decreases-none_oftener_among l = 2 * nodes_of (trees_of (tree_list l.us.now)) + 1

abbrev pub invariant-none_oftener_among-loop-u : goal.invariant-none_oftener_among-loop-u
invariant-none_oftener_among-loop-u l =
    none_oftener_all (trees_of (tree_list l.ss)) (trees_of (tree_list l.ts)) (terms_from l.us 0) ≡ none_oftener_all (trees_of (tree_list l.ss)) (trees_of (tree_list l.ts)) (terms_from l.us l.u-index)
