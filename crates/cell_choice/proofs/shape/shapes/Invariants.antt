-- those of the blocks so far are there, and those of the others complete them
use Rattle.std.proofs.Common.{◌≡◌, ◌+◌, ◌++◌, length, map, drop}
use Rattle.mace_ground.specs.Cells.{cells_in}
use Rattle.mace_ground.specs.Spans.{block_of}
use Rattle.cell_choice.specs.Shapes.{cell_shapes}
use Rattle.cell_choice.proofs.shape.shapes.Given as goal

abbrev pub invariant-loop-block : goal.invariant-loop-block
invariant-loop-block l = record {
  whole : l.shapes.items ++ cell_shapes l.ground.size (map block_of (drop l.block-index l.block-items)) ≡ cell_shapes l.ground.size l.ground.blocks;
  room : length l.shapes.items + cells_in l.ground.size (map block_of (drop l.block-index l.block-items)) ≡ l.cells;
}
