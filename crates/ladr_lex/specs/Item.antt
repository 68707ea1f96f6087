-- The item that a text begins with.
use Rattle.std.specs.Prelude.{◌≡◌, ℕ, ◌<◌, ◌≤◌, Bool, true, false, ◌||◌, List, [], ◌∷◌, ◌++◌, length, drop}
use Rattle.ladr_lex.specs.Cuts.{Piece}
use Rattle.ladr_lex.specs.Lexed.{lexed_from}
use Rattle.ladr_lex.specs.declared.token.TokenKind.{TokenKind}
use Rattle.ladr_lex.specs.declared.token.TokenKind.TheVariants.{Stop}

abbrev pub is_stop : TokenKind → Bool
is_stop Stop = true
is_stop kind = false

-- whether a full stop is among tokens
abbrev pub has_stop : List Piece → Bool
has_stop [] = false
has_stop (p ∷ ps) = is_stop p.kind || has_stop ps

-- tokens up to and with the first full stop; where there is none no bytes are left behind them
pub data IsItem : List Piece → List ℕ → Type 0 where
  stopped :
      {rest : List ℕ} (ps : List Piece) (p : Piece) → has_stop ps ≡ false →
      is_stop p.kind ≡ true → IsItem (ps ++ p ∷ []) rest
  last : {ps : List Piece} → has_stop ps ≡ false → IsItem ps []

-- The tokens of a text, which stands at place start, from one byte on: they are those of an item,
-- which ends before another byte, and the tokens from there on.
pub record CutsItem (start : ℕ) (bytes : List ℕ) (item : List Piece) (at next : ℕ) : Type 0 where
  pub onward : at < next
  pub within : next ≤ length bytes
  pub cut : lexed_from start at bytes ≡ item ++ lexed_from start next bytes
  pub whole : IsItem item (drop next bytes)
