-- How tokens cut a text.
use Rattle.std.specs.Prelude.{◌≡◌, ℕ, ◌+◌, Bool, false, not, ◌||◌, ◌&&◌, IsTrue, codes, length, List, [], ◌∷◌, ◌++◌, Option, Some, None}
use Rattle.std.specs.List.{list_all}
use Rattle.std.specs.Str.{bytes_eq}
use Rattle.ladr_lex.specs.Bytes.{is_blank, is_punctuation, is_ordinary, is_special, is_dash, is_apostrophe, is_quote, is_quotable, is_percent}
use Rattle.ladr_lex.specs.Comments.{is_comment, is_open_block}
use Rattle.ladr_lex.specs.Tokens.{token_kind, token_text, token_start}
use Rattle.ladr_lex.specs.declared.token.Token.{Token}
use Rattle.ladr_lex.specs.declared.token.TokenKind.{TokenKind}
use Rattle.ladr_lex.specs.declared.token.TokenKind.TheVariants.{Open, Close, LeftSquare, RightSquare, Comma, Stop, Ordinary, Quoted, Special, Unreadable}

-- a token as definitions see it: its kind, its bytes, and the place of the first of them
pub record Piece : Type 0 where
  pub kind : TokenKind
  pub text : List ℕ
  pub start : ℕ

abbrev pub piece_of : Token → Piece
piece_of t = record { kind = token_kind t; text = token_text t; start = token_start t }

abbrev pub pieces_of : List Token → List Piece
pieces_of [] = []
pieces_of (t ∷ ts) = piece_of t ∷ pieces_of ts

-- one byte or more, all of a class
abbrev pub is_run : (ℕ → Bool) → List ℕ → Bool
is_run class [] = false
is_run class (b ∷ bs) = list_all class (b ∷ bs)

-- one special byte or more, of which the last isn't `-`
abbrev pub is_special_run : List ℕ → Bool
is_special_run [] = false
is_special_run (b ∷ []) = is_special b && not (is_dash b)
is_special_run (b ∷ c ∷ cs) = is_special b && is_special_run (c ∷ cs)

-- bytes that may be quoted, and a quote
abbrev pub ends_quoted : List ℕ → Bool
ends_quoted [] = false
ends_quoted (b ∷ []) = is_quote b
ends_quoted (b ∷ c ∷ cs) = is_quotable b && ends_quoted (c ∷ cs)

abbrev pub is_quoted : List ℕ → Bool
is_quoted [] = false
is_quoted (b ∷ bs) = is_quote b && ends_quoted bs

-- one byte of a class
abbrev pub is_single : (ℕ → Bool) → List ℕ → Bool
is_single class [] = false
is_single class (b ∷ []) = class b
is_single class (b ∷ c ∷ cs) = false

-- a byte that begins neither a comment nor any token but a quoted symbol
unfoldable pub is_stray : ℕ → Bool
is_stray b =
    not (is_blank b || is_punctuation b || is_ordinary b || is_special b || is_apostrophe b
    || is_percent b)

-- what stands between tokens: a byte of white space, or a comment
abbrev pub is_gap : List ℕ → Bool
is_gap text = is_single is_blank text || is_comment text

-- The texts of a kind, and of what stands between tokens, which has none. A special symbol ends
-- with `-` only as `-` itself and as `<-`; unreadable are a stray byte and a block without its end.
abbrev pub can_be : Option TokenKind → List ℕ → Bool
can_be None text = is_gap text
can_be (Some Open) text = bytes_eq text (codes "(")
can_be (Some Close) text = bytes_eq text (codes ")")
can_be (Some LeftSquare) text = bytes_eq text (codes "[")
can_be (Some RightSquare) text = bytes_eq text (codes "]")
can_be (Some Comma) text = bytes_eq text (codes ",")
can_be (Some Stop) text = bytes_eq text (codes ".")
can_be (Some Ordinary) text = is_run is_ordinary text
can_be (Some Quoted) text = is_quoted text
can_be (Some Special) text =
    bytes_eq text (codes "'") || bytes_eq text (codes "-") || bytes_eq text (codes "<-")
    || is_special_run text
can_be (Some Unreadable) text = is_single is_stray text || is_open_block text

-- an ordinary or special symbol
abbrev pub is_plain_symbol : List ℕ → Bool
is_plain_symbol text = can_be (Some Ordinary) text || can_be (Some Special) text

-- The text in front of the rest is of this kind, and no longer front of both is of any.
pub record IsLongest (kind : Option TokenKind) (text rest : List ℕ) : Type 0 where
  pub fits : IsTrue (can_be kind text)
  pub longest : (other : Option TokenKind) (more behind : List ℕ) → rest ≡ more ++ behind →
      IsTrue (can_be other (text ++ more)) → more ≡ []

-- The tokens cut the bytes, which stand at place i: these are, from the first to the last, white
-- space, comments and the tokens, each as long as it can be.
pub data Cuts : ℕ → List ℕ → List Piece → Type 0 where
  nothing : {i : ℕ} → Cuts i [] []
  gap :
      {i : ℕ} {text rest : List ℕ} {ts : List Piece} → IsLongest None text rest →
      Cuts (i + length text) rest ts →
      Cuts i (text ++ rest) ts
  token :
      {i : ℕ} {text rest : List ℕ} {ts : List Piece} (kind : TokenKind) →
      IsLongest (Some kind) text rest →
      Cuts (i + length text) rest ts →
      Cuts i (text ++ rest) (record { kind = kind; text = text; start = i } ∷ ts)
