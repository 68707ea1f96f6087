-- a way for each clause so far
use Rattle.std.proofs.Common.{◌≡◌, length, map}
use Rattle.cell_search.specs.Covering.{AreWaysThrough}
use Rattle.cell_search.proofs.walks.walks.Given as goal

abbrev pub invariant-loop-clause : goal.invariant-loop-clause
invariant-loop-clause l = record {
  many : length l.walks.items ≡ l.clause;
  through : AreWaysThrough (map (λ row. row.1) l.clauses) l.walks.items;
}
