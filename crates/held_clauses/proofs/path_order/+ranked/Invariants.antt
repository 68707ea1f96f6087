-- Arguments are smaller than the terms that have them.
use Rattle.std.proofs.Common.{◌+◌, ◌*◌}
use Rattle.fol_core.specs.TermView.{tree_of, tree_list}
use Rattle.fol_core.specs.Tree.{nodes, nodes_of, trees_of}
use Rattle.held_clauses.proofs.path_order.+ranked.Given as goal

abbrev pub decreases-ranked : goal.decreases-ranked
decreases-ranked l = 2 * (nodes (tree_of l.s.now) + nodes (tree_of l.t.now)) + 1

abbrev pub decreases-ranked_behind : goal.decreases-ranked_behind
decreases-ranked_behind l = 2 * (nodes (tree_of l.s.now) + nodes (tree_of l.t.now))

abbrev pub decreases-past_common : goal.decreases-past_common
decreases-past_common l = 2 * (nodes_of (trees_of (tree_list l.ss.now)) + nodes_of (trees_of (tree_list l.ts.now))) + 3

abbrev pub decreases-some_at_least : goal.decreases-some_at_least
decreases-some_at_least l = 2 * (nodes_of (trees_of (tree_list l.ss.now)) + nodes (tree_of l.t.now)) + 3

abbrev pub decreases-is_above_each : goal.decreases-is_above_each
decreases-is_above_each l = 2 * (nodes (tree_of l.s.now) + nodes_of (trees_of (tree_list l.ts.now))) + 3
