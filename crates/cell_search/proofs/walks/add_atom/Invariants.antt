-- the atom itself and the arguments so far have their ways
use Rattle.fol_core.specs.TermView.{tree_of}
use Rattle.cell_search.proofs.Occurring.{AtomHas, EachBefore}
use Rattle.cell_search.specs.Ways.{AreGroups, GroupsGrow, HasWalkOf}
use Rattle.cell_search.proofs.walks.add_atom.Given as goal

abbrev pub invariant-loop-term : goal.invariant-loop-term
invariant-loop-term l = record {
  grow : GroupsGrow l.fn.groups.items l.groups.items;
  walks : AreGroups l.setup l.fn.groups.items → AtomHas (HasWalkOf l.setup l.groups.items l.clause l.variables) (tree_of l.fn.atom)
      × EachBefore (HasWalkOf l.setup l.groups.items l.clause l.variables) l.term-items l.term-index;
}
