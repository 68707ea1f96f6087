-- The first hints are in their rows.
use Rattle.std.proofs.Common.{◌<◌, length, map, take}
use Rattle.weights.specs.HintIndex.{AreIndexed}
use Rattle.weights.specs.HintRows.{hint_row}
use Rattle.weights.proofs.hints.index_of.Given as goal

abbrev pub invariant-loop-place : goal.invariant-loop-place
invariant-loop-place l = record {
  some : 0 < length l.rows.items;
  rows : AreIndexed l.rows.items (map hint_row (take l.place l.hints));
}
