-- Blocks of proofs: from a line that is the banner of a proof to the next one that is the banner of
-- its end.
use Rattle.std.specs.Prelude.{◌≡◌, ℕ, ◌+◌, Bool, true, false, List, [], ◌∷◌, ◌++◌, length, map, if◌then◌else◌, codes}
use Rattle.std.specs.List.{list_any, concat}
use Rattle.std.specs.Str.{bytes_eq}
use Rattle.ladr_lex.specs.Comments.{begins_with}
use Rattle.ladr_lex.specs.Places.{ends_line}
use Rattle.proof_text.specs.Frame.{first_line}

-- one more byte in front of the first line
abbrev pub in_front : ℕ → List (List ℕ) → List (List ℕ)
in_front b [] = (b ∷ []) ∷ []
in_front b (l ∷ ls) = (b ∷ l) ∷ ls

-- bytes cut into lines, each with its end; the last may lack one
abbrev pub lines_in : List ℕ → List (List ℕ)
lines_in [] = []
lines_in (b ∷ bs) = if ends_line b then (b ∷ []) ∷ lines_in bs else in_front b (lines_in bs)

-- the line has this text
abbrev pub has_text : List ℕ → List ℕ → Bool
has_text text line = bytes_eq (first_line line) text

abbrev pub is_proof_banner : List ℕ → Bool
is_proof_banner line =
    has_text (codes "============================== PROOF =================================") line

abbrev pub is_end_banner : List ℕ → Bool
is_end_banner line =
    has_text (codes "============================== end of proof ==========================") line

-- the place of a block's first line, its lines, and whether the banner of its end follows
pub record TextBlock : Type 0 where
  pub start : ℕ
  pub lines : List (List ℕ)
  pub closed : Bool

abbrev pub block : ℕ → List (List ℕ) → Bool → TextBlock
block start lines closed = record { start = start; lines = lines; closed = closed }

abbrev pub end_of_block : TextBlock → ℕ
end_of_block b = b.start + length (concat b.lines)

-- These are the blocks of lines, of which the first stands at place i.
pub data HasBlocks : ℕ → List (List ℕ) → List TextBlock → Type 0 where
  nothing : {i : ℕ} → HasBlocks i [] []
  outside :
      {i : ℕ} {line : List ℕ} {lines : List (List ℕ)} {bs : List TextBlock} →
      is_proof_banner line ≡ false →
      HasBlocks (i + length line) lines bs → HasBlocks i (line ∷ lines) bs
  closed :
      {i : ℕ} {line : List ℕ} {inner lines : List (List ℕ)} {bs : List TextBlock} (end : List ℕ) →
      is_proof_banner line ≡ true → list_any is_end_banner inner ≡ false → is_end_banner end ≡ true
      →
      HasBlocks (i + length line + length (concat inner) + length end) lines bs →
      HasBlocks i (line ∷ (inner ++ (end ∷ lines))) (block (i + length line) inner true ∷ bs)
  still_open :
      {i : ℕ} {line : List ℕ} {inner : List (List ℕ)} → is_proof_banner line ≡ true →
      list_any is_end_banner inner ≡ false →
      HasBlocks i (line ∷ inner) (block (i + length line) inner false ∷ [])

-- a line that begins with `%` is passed over: white space stands in its place
abbrev pub blank : ℕ → ℕ
blank b = if ends_line b then b else 32

abbrev pub bared : List ℕ → List ℕ
bared line = if begins_with (codes "%") line then map blank line else line

-- the bytes of a block that are read
abbrev pub bare : TextBlock → List ℕ
bare b = concat (map bared b.lines)
