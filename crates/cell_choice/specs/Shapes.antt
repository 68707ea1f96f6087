-- What the choice of a cell looks at.
use Rattle.std.specs.Prelude.{ℕ, ◌^◌, List, [], ◌∷◌, ◌++◌, map}
use Rattle.std.specs.List.{range_with_len}
use Rattle.mace_cells.specs.Numbers.{above_each}
use Rattle.cell_choice.specs.declared.shape.CellShape.{CellShape}
use Rattle.mace_cells.specs.Trails.{Ranking, counts_crossed}
use Rattle.mace_cells.specs.World.{World, cell_of}
use Rattle.mace_ground.specs.Cells.{Block, Cell, cell, digits}

-- a cell's kind, and the least number above its arguments, which is its index
abbrev pub shape_of : Cell → CellShape
shape_of c = record { kind = c.kind; above = above_each c.arguments }

-- the index that a world's cell has
abbrev pub index_in : World → ℕ → ℕ
index_in w k = above_each (cell_of w k).arguments

-- the shapes of a symbol's cells, and of all cells by number
abbrev pub block_shapes : ℕ → Block → List CellShape
block_shapes n b =
    map (λ k. shape_of (cell b.kind b.symbol (digits n b.arity k)))
    (range_with_len 0 (n ^ b.arity))

abbrev pub cell_shapes : ℕ → List Block → List CellShape
cell_shapes n [] = []
cell_shapes n (b ∷ bs) = block_shapes n b ++ cell_shapes n bs

-- how a world's cells are ranked
abbrev pub ranking_of : World → Ranking
ranking_of w =
    record {
      indices = map (λ s. s.above) (cell_shapes w.size w.blocks);
      counts = counts_crossed w.way.measure;
    }
