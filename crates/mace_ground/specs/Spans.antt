-- Blocks of cells as the code keeps them.
use Rattle.std.specs.Prelude.{ℕ, ◌≡◌, ◌==◌, if◌then◌else◌, List, Option, Some, None}
use Rattle.std.specs.List.{slice_index_or}
use Rattle.std.specs.Option.{option_map}
use Rattle.mace_ground.specs.Cells.{found}
use Rattle.mace_ground.specs.Cells as cells
use Rattle.mace_ground.specs.declared.blocks.Block.{Block}
use Rattle.mace_ground.specs.declared.blocks.Span.{Span}

-- how many elements there are, and the blocks
pub record Placed : Type 0 where
  pub size : ℕ
  pub blocks : List cells.Block

abbrev pub placed : ℕ → List cells.Block → Placed
placed size blocks = record { size = size; blocks = blocks }

abbrev pub block_of : Block → cells.Block
block_of b = record { kind = b.kind; symbol = b.symbol.0; arity = b.arity }

abbrev pub span_of : Span → ℕ × cells.Block
span_of s = (s.first, block_of s.block)

-- each symbol's span says where its block is found
abbrev pub ArePlaced : ℕ → List cells.Block → List (Option Span) → Type 0
ArePlaced n blocks spans =
    (s : ℕ) → option_map span_of (slice_index_or spans s None) ≡ found n blocks s

-- what a symbol's slot holds once a span is noted: a span that was there stays
abbrev pub span_noted : Span → ℕ → Option Span → Option Span
span_noted span s None = if s == span.block.symbol.0 then Some span else None
span_noted span s (Some old) = Some old
