-- Parts are smaller; the weight so far and that of the terms from here on are all.
use Rattle.std.proofs.Common.{◌≡◌, ◌≤◌, ◌+◌, ◌*◌}
use Rattle.fol_core.specs.Sizes.{sizes_of}
use Rattle.fol_core.specs.TermView.{tree_of, tree_list}
use Rattle.fol_core.specs.Tree.{nodes, nodes_of, trees_of}
use Rattle.term_order.specs.Kbo.{weigh_all}
use Rattle.term_order.specs.Precedences.{weight_at}
use Rattle.held_clauses.proofs.Weights.{terms_from}
use Rattle.held_clauses.proofs.weight_order.+weigh.Given as goal

abbrev pub decreases-weigh : goal.decreases-weigh
decreases-weigh l = 2 * nodes (tree_of l.t.now)

abbrev pub decreases-weigh_all : goal.decreases-weigh_all
decreases-weigh_all l = 2 * nodes_of (trees_of (tree_list l.ts.now)) + 1

abbrev pub invariant-weigh_all-loop-t : goal.invariant-weigh_all-loop-t
invariant-weigh_all-loop-t l =
    (l.weight + weigh_all (weight_at l.precedence.rows.items) (terms_from l.ts l.t-index) ≡ weigh_all (weight_at l.precedence.rows.items) (terms_from l.ts 0))
    × (l.weight + 4294967295 * sizes_of (terms_from l.ts l.t-index) ≤ 4294967295 * sizes_of (terms_from l.ts 0))
