-- the clauses so far have their ways
use Rattle.std.proofs.Common.{◌≡◌, map}
use Rattle.cell_search.specs.Ways.{AreGroups, HaveWalks}
use Rattle.cell_search.proofs.walks.groups.Given as goal

abbrev pub invariant-loop-at : goal.invariant-loop-at
invariant-loop-at l = record {
  groups : AreGroups l.setup l.groups.items;
  walks : map (λ row. row.1) l.clauses ≡ l.setup.clauses → HaveWalks l.setup l.groups.items l.at;
}
