-- what is counted and what is left make up the sum
use Rattle.std.proofs.Common.{◌≡◌, ◌+◌, ◌-◌, ◌^◌, ◌≤◌, min, map, drop}
use Rattle.mace_ground.specs.Cells.{blocks_of, cells_in}
use Rattle.mace_ground.proofs.counting.skolem_cells.Given as goal

abbrev pub invariant-loop-entry : goal.invariant-loop-entry
invariant-loop-entry l = record {
  most : l.all ≤ 2 ^ 128 - 1;
  all : min (l.all + cells_in l.size (blocks_of l.symbols (map (λ e. e.symbol.0) (drop l.entry-index l.skolem)))) (2 ^ 128 - 1) ≡ min (cells_in l.size (blocks_of l.symbols (map (λ e. e.symbol.0) l.skolem))) (2 ^ 128 - 1);
}
