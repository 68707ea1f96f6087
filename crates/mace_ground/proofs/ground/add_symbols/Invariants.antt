-- the blocks so far, and those to come
use Rattle.std.proofs.Common.{◌≡◌, ◌+◌, ◌^◌, ◌<◌, ◌++◌, map, drop}
use Rattle.mace_ground.specs.Cells.{blocks_of, cells_in}
use Rattle.mace_ground.proofs.ground.add_symbols.Given as goal

abbrev pub invariant-loop-symbol : goal.invariant-loop-symbol
invariant-loop-symbol l = record {
  size : l.blocks.size ≡ l.fn.blocks.size;
  all : l.blocks.blocks ++ blocks_of l.symbols (map (λ s. s.0) (drop l.symbol-index l.used)) ≡ l.fn.blocks.blocks ++ blocks_of l.symbols (map (λ s. s.0) l.used);
  room : cells_in l.blocks.size l.blocks.blocks + cells_in l.blocks.size (blocks_of l.symbols (map (λ s. s.0) (drop l.symbol-index l.used))) < 2 ^ 32;
}
