-- the literals so far have their ways
use Rattle.cell_search.proofs.Occurring.{EachLiteralBefore}
use Rattle.cell_search.specs.Ways.{AreGroups, GroupsGrow, HasWalkOf}
use Rattle.cell_search.proofs.walks.add_clause.Given as goal

abbrev pub invariant-loop-literal : goal.invariant-loop-literal
invariant-loop-literal l = record {
  grow : GroupsGrow l.fn.groups.items l.groups.items;
  walks : AreGroups l.setup l.fn.groups.items → EachLiteralBefore (HasWalkOf l.setup l.groups.items l.at l.variables) l.literal-items l.literal-index;
}
