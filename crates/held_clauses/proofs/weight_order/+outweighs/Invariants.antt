-- Parts are smaller.
use Rattle.std.proofs.Common.{◌+◌, ◌*◌}
use Rattle.fol_core.specs.TermView.{tree_of, tree_list}
use Rattle.fol_core.specs.Tree.{nodes, nodes_of, trees_of}
use Rattle.held_clauses.proofs.weight_order.+outweighs.Given as goal

abbrev pub decreases-outweighs : goal.decreases-outweighs
decreases-outweighs l = 2 * (nodes (tree_of l.s.now) + nodes (tree_of l.t.now))

abbrev pub decreases-first_outweighs : goal.decreases-first_outweighs
decreases-first_outweighs l = 2 * (nodes_of (trees_of (tree_list l.ss.now)) + nodes_of (trees_of (tree_list l.ts.now))) + 1
