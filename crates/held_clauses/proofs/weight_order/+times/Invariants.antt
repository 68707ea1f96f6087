-- Parts are smaller; the places so far and those from here on are all.
use Rattle.std.proofs.Common.{◌≡◌, ◌+◌, ◌*◌}
use Rattle.fol_core.specs.TermView.{tree_of, tree_list}
use Rattle.fol_core.specs.Tree.{nodes, nodes_of, trees_of}
use Rattle.term_order.specs.Kbo.{times_in_all}
use Rattle.held_clauses.proofs.Weights.{terms_from}
use Rattle.held_clauses.proofs.weight_order.+times.Given as goal

abbrev pub decreases-times_in : goal.decreases-times_in
decreases-times_in l = 2 * nodes (tree_of l.t.now)

abbrev pub decreases-times_among : goal.decreases-times_among
decreases-times_among l = 2 * nodes_of (trees_of (tree_list l.ts.now)) + 1

abbrev pub invariant-times_among-loop-t : goal.invariant-times_among-loop-t
invariant-times_among-loop-t l = l.times + times_in_all l.x (terms_from l.ts l.t-index) ≡ times_in_all l.x (terms_from l.ts 0)
