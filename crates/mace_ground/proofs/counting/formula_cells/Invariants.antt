-- what is counted and what is left make up the sum
use Rattle.std.proofs.Common.{◌≡◌, ◌+◌, ◌-◌, ◌^◌, ◌≤◌, min, map, drop}
use Rattle.mace_ground.specs.Cells.{blocks_of, cells_in}
use Rattle.mace_ground.proofs.counting.formula_cells.Given as goal

abbrev pub invariant-loop-symbol : goal.invariant-loop-symbol
invariant-loop-symbol l = record {
  most : l.all ≤ 2 ^ 128 - 1;
  all : min (l.all + cells_in l.size (blocks_of l.symbols (map (λ s. s.0) (drop l.symbol-index l.used)))) (2 ^ 128 - 1) ≡ min (cells_in l.size (blocks_of l.symbols (map (λ s. s.0) l.used))) (2 ^ 128 - 1);
}
