-- Cells by number.
use Rattle.std.specs.Prelude.{ℕ, ◌≡◌, ◌+◌, ◌<◌, List, Some, length}
use Rattle.mace_ground.specs.Cells.{Block, cell, cells_in, cell_at, found}
use Rattle.model_tables.specs.Size.{AllBelow}
use Rattle.model_tables.specs.Tables.{place_from}

-- a symbol's cell for some arguments stands at their place behind the first of its cells
abbrev pub CellsByNumber : Type 0
CellsByNumber =
    (n : ℕ) (blocks : List Block) (s first : ℕ) (b : Block) (xs : List ℕ) →
    found n blocks s ≡ Some (first, b) → length xs ≡ b.arity → AllBelow n xs
    → (first + place_from n 0 xs < cells_in n blocks)
    × (cell_at n blocks (first + place_from n 0 xs) ≡ cell b.kind s xs)
