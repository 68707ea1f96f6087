-- an argument has fewer nodes; the term itself and the arguments so far have their ways
use Rattle.fol_core.specs.Tree.{nodes}
use Rattle.fol_core.specs.TermView.{tree_of}
use Rattle.cell_search.proofs.Occurring.{EachBefore, HeadHas}
use Rattle.cell_search.specs.Ways.{AreGroups, GroupsGrow, HasWalkOf}
use Rattle.cell_search.proofs.walks.+add_term.Given as goal

abbrev pub decreases-add_term : goal.decreases-add_term
decreases-add_term l = nodes (tree_of l.term.now)

abbrev pub invariant-loop-term : goal.invariant-loop-term
invariant-loop-term l = record {
  grow : GroupsGrow l.fn.groups.items l.groups.items;
  walks : AreGroups l.setup l.fn.groups.items → HeadHas (HasWalkOf l.setup l.groups.items l.clause l.variables) (tree_of l.fn.term)
      × EachBefore (HasWalkOf l.setup l.groups.items l.clause l.variables) l.term-items l.term-index;
}
