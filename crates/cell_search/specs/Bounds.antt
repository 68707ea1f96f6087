-- What the values of cells are below.
use Rattle.std.specs.Prelude.{ℕ, ◌^◌, List, [], ◌∷◌, ◌++◌, replicate}
use Rattle.mace_ground.specs.Cells.{Block}
use Rattle.model_tables.specs.Size.{bound_of}

-- those of each cell, by number
abbrev pub cell_bounds : ℕ → List Block → List ℕ
cell_bounds n [] = []
cell_bounds n (b ∷ bs) = replicate (n ^ b.arity) (bound_of n b.kind) ++ cell_bounds n bs
