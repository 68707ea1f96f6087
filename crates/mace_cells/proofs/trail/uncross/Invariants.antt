-- what came after the mark is being taken back
use Rattle.std.proofs.Common.{◌≡◌, false, length}
use Rattle.mace_cells.specs.Made.{IsMade}
use Rattle.mace_cells.specs.Trails.{struck, earliest, AreScored}
use Rattle.mace_cells.proofs.trail.uncross.Given as goal

abbrev pub invariant-loop-at : goal.invariant-loop-at
invariant-loop-at l = record {
  made : IsMade false (length l.crossed.items) (struck l.crossings.list) l.crossed.items;
  same : length l.crossed.items ≡ length l.fn.crossed.items;
  indices : l.ranks.indices ≡ l.fn.ranks.indices;
  free : l.ranks.free ≡ l.fn.ranks.free;
  scored : AreScored l.counts l.stride l.crossings.list (length l.ranks.indices) l.ranks.scores;
  room : l.crossings.room ≡ l.fn.crossings.room;
  rest : earliest l.mark l.crossings.list ≡ earliest l.mark l.fn.crossings.list;
}

abbrev pub decreases-loop-at : goal.decreases-loop-at
decreases-loop-at l = length l.crossings.list
