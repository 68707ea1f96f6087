-- none of the free cells so far has so low an index
use Rattle.std.proofs.Common.{◌≤◌, ◌<◌, ℕ}
use Rattle.cell_ranks.specs.Ranks.{IsFree, rank_index}
use Rattle.cell_ranks.proofs.ranks.Ranks.first.Given as goal

abbrev pub invariant-loop-index : goal.invariant-loop-index
invariant-loop-index l = record {
  from : l.to ≤ l.index;
  none : (j : ℕ) → l.to < l.index → IsFree l.self j → l.index ≤ rank_index l.self j;
}
