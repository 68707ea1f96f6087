-- Blocks as the code has them.
use Rattle.std.specs.Prelude.{◌≡◌, ℕ, ◌+◌, true, false, List, [], ◌∷◌, ◌++◌, length, drop}
use Rattle.std.specs.List.{list_any, concat}
use Rattle.proof_text.specs.Blocks.{TextBlock, block, HasBlocks, lines_in, is_end_banner, bare, end_of_block}
use Rattle.proof_text.specs.declared.blocks.BlockRead.{BlockRead}

-- the code has this block
pub record IsBlockRead (b : TextBlock) (r : BlockRead) : Type 0 where
  pub start : r.start ≡ b.start
  pub end : r.end ≡ end_of_block b
  pub bytes : r.bytes.items ≡ bare b
  pub closed : r.closed ≡ b.closed

pub data AreBlocksRead : List TextBlock → List BlockRead → Type 0 where
  none : AreBlocksRead [] []
  further : {b : TextBlock} {r : BlockRead} {bs : List TextBlock} {rs : List BlockRead} →
      IsBlockRead b r →
      AreBlocksRead bs rs → AreBlocksRead (b ∷ bs) (r ∷ rs)

-- The code has the block whose first line stands at a place, and the place where the text goes on
-- behind it.
pub data IsBlockFound (bytes : List ℕ) (start : ℕ) : BlockRead → ℕ → Type 0 where
  closed :
      {r : BlockRead} {next : ℕ} (inner : List (List ℕ)) (end : List ℕ) →
      list_any is_end_banner inner ≡ false → is_end_banner end ≡ true →
      lines_in (drop start bytes) ≡ inner ++ (end ∷ lines_in (drop next bytes)) →
      next ≡ start + length (concat inner) + length end →
      IsBlockRead (block start inner true) r → IsBlockFound bytes start r next
  still_open :
      {r : BlockRead} {next : ℕ} (inner : List (List ℕ)) → list_any is_end_banner inner ≡ false →
      lines_in (drop start bytes) ≡ inner →
      next ≡ length bytes → IsBlockRead (block start inner false) r →
      IsBlockFound bytes start r next

-- the code has the blocks of these lines
abbrev pub HasFoundBlocks : ℕ → List (List ℕ) → List BlockRead → Type 0
HasFoundBlocks i lines found = (bs : List TextBlock) × HasBlocks i lines bs × AreBlocksRead bs found
