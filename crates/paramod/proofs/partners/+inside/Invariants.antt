-- An argument has fewer nodes. The numbers for the first terms are added.
use Rattle.std.proofs.Common.{◌+◌, flat_map, take}
use Rattle.fol_core.specs.TermView.{tree_of, tree_list}
use Rattle.fol_core.specs.Tree.{nodes, nodes_of, trees_of}
use Rattle.clause_index.specs.Numbered.{AddsAll}
use Rattle.paramod.specs.Partners.{terms_among, replacing}
use Rattle.paramod.proofs.partners.+inside.Given as goal

abbrev pub decreases-add_inside : goal.decreases-add_inside
decreases-add_inside l = nodes (tree_of l.term.now)

abbrev pub decreases-add_inside_each : goal.decreases-add_inside_each
decreases-add_inside_each l = nodes_of (trees_of (tree_list l.terms.now)) + 1

abbrev pub invariant-add_inside_each-loop-term : goal.invariant-add_inside_each-loop-term
invariant-add_inside_each-loop-term l =
    AddsAll l.fn.numbers.items (flat_map (replacing l.held) (terms_among (trees_of (tree_list (take l.term-index l.terms))))) l.numbers.items
