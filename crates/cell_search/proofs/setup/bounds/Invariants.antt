-- those of the blocks so far are there, and those of the others complete them
use Rattle.std.proofs.Common.{◌≡◌, ◌+◌, ◌++◌, length, map, drop}
use Rattle.mace_ground.specs.Cells.{cells_in}
use Rattle.mace_ground.specs.Spans.{block_of}
use Rattle.cell_search.specs.Bounds.{cell_bounds}
use Rattle.cell_search.proofs.setup.bounds.Given as goal

abbrev pub invariant-loop-block : goal.invariant-loop-block
invariant-loop-block l = record {
  whole : l.bounds.items ++ cell_bounds l.ground.size (map block_of (drop l.block-index l.block-items)) ≡ cell_bounds l.ground.size l.ground.blocks;
  room : length l.bounds.items + cells_in l.ground.size (map block_of (drop l.block-index l.block-items)) ≡ l.cells;
}
