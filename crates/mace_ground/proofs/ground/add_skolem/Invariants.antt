-- the blocks so far, and those to come
use Rattle.std.proofs.Common.{◌≡◌, ◌+◌, ◌^◌, ◌<◌, ◌++◌, map, drop}
use Rattle.mace_ground.specs.Cells.{blocks_of, cells_in}
use Rattle.mace_ground.proofs.ground.add_skolem.Given as goal

abbrev pub invariant-loop-entry : goal.invariant-loop-entry
invariant-loop-entry l = record {
  size : l.blocks.size ≡ l.fn.blocks.size;
  all : l.blocks.blocks ++ blocks_of l.symbols (map (λ e. e.symbol.0) (drop l.entry-index l.skolem)) ≡ l.fn.blocks.blocks ++ blocks_of l.symbols (map (λ e. e.symbol.0) l.skolem);
  room : cells_in l.blocks.size l.blocks.blocks + cells_in l.blocks.size (blocks_of l.symbols (map (λ e. e.symbol.0) (drop l.entry-index l.skolem))) < 2 ^ 32;
}
