-- the cells so far are free
use Rattle.std.proofs.Common.{◌≡◌, ◌<◌, ℕ, length}
use Rattle.cell_ranks.specs.Ranks.{IsFree}
use Rattle.cell_ranks.proofs.ranks.Ranks.open_all.Given as goal

abbrev pub invariant-loop-cell : goal.invariant-loop-cell
invariant-loop-cell l = record {
  indices : l.self.indices ≡ l.fn.self.indices;
  scores : l.self.scores ≡ l.fn.self.scores;
  many : length l.self.free ≡ length l.fn.self.indices;
  free : (k : ℕ) → k < l.cell → IsFree l.self k;
}
