-- what came after the latest decision is being taken back
use Rattle.std.proofs.Common.{◌≡◌, None, length}
use Rattle.mace_cells.specs.Made.{IsMade}
use Rattle.mace_cells.specs.Trails.{cells_written, before_decision, latest_mark, AreFlagged}
use Rattle.mace_cells.proofs.trail.take_back.Given as goal

abbrev pub invariant-loop-entry : goal.invariant-loop-entry
invariant-loop-entry l = record {
  made : IsMade None (length l.values.items) (cells_written l.entries.list) l.values.items;
  same : length l.values.items ≡ length l.fn.values.items;
  indices : l.ranks.indices ≡ l.fn.ranks.indices;
  scores : l.ranks.scores ≡ l.fn.ranks.scores;
  free : AreFlagged l.values.items l.ranks.free;
  room : l.entries.room ≡ l.fn.entries.room;
  before : before_decision l.entries.list ≡ before_decision l.fn.entries.list;
  mark : latest_mark l.entries.list ≡ latest_mark l.fn.entries.list;
}

abbrev pub decreases-loop-entry : goal.decreases-loop-entry
decreases-loop-entry l = length l.entries.list
