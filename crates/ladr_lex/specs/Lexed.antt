-- The tokens of a text, computed.
use Rattle.std.specs.Prelude.{◌≡◌, ◌≤◌, ◌+◌, length, ℕ, zero, suc, Bool, false, ◌==◌, ◌&&◌, if◌then◌else◌, unwrap_or, Option, Some, None, List, [], ◌∷◌, ◌++◌, take, drop, codes}
use Rattle.std.specs.List.{prefix_len}
use Rattle.ladr_lex.specs.Bytes.{is_ordinary, is_special, is_dash, is_quotable}
use Rattle.ladr_lex.specs.Comments.{begins_with, up_to, contains, is_in_line}
use Rattle.ladr_lex.specs.Cuts.{Piece, pieces_of}
use Rattle.ladr_lex.specs.Starts.{start_of}
use Rattle.ladr_lex.specs.declared.bytes.Class.{Class}
use Rattle.ladr_lex.specs.declared.bytes.Class.TheVariants as class
use Rattle.ladr_lex.specs.declared.bytes.TokenStart.{TokenStart}
use Rattle.ladr_lex.specs.declared.bytes.TokenStart.TheVariants.{Blank, Word, Sign, Quote, Percent, Single}
use Rattle.ladr_lex.specs.declared.token.Token.{Token}
use Rattle.ladr_lex.specs.declared.token.TokenKind.{TokenKind}
use Rattle.ladr_lex.specs.declared.token.TokenKind.TheVariants.{Ordinary, Quoted, Special, Unreadable}

-- the classes of bytes whose runs are looked for
abbrev pub in_class : Class → ℕ → Bool
in_class class.Ordinary b = is_ordinary b
in_class class.Quotable b = is_quotable b
in_class class.InLine b = is_in_line b

-- whether a quoted symbol ends in the bytes behind its first quote
abbrev pub quote_ends : List ℕ → Bool
quote_ends bs = begins_with (codes "\"") (drop (prefix_len is_quotable bs) bs)

-- whether a block begins with `%` and these bytes, and whether it ends in them
abbrev pub is_block : List ℕ → Bool
is_block bs = begins_with (codes "BEGIN") bs

abbrev pub is_ended : List ℕ → Bool
is_ended bs = contains (codes "%END") bs

-- the kind of what begins with a byte and those behind it: of a token, or none, of white space and
-- comments
abbrev pub kind_begun_by : TokenStart → List ℕ → Option TokenKind
kind_begun_by Blank bs = None
kind_begun_by Word bs = Some Ordinary
kind_begun_by Sign bs = Some Special
kind_begun_by Quote bs = if quote_ends bs then Some Quoted else Some Unreadable
kind_begun_by Percent bs =
    if is_block bs then (if is_ended bs then None else Some Unreadable) else None
kind_begun_by (Single kind) bs = Some kind

abbrev pub kind_beginning : ℕ → List ℕ → Option TokenKind
kind_beginning b bs = kind_begun_by (start_of b) bs

-- how many bytes the longest run of special bytes has that doesn't end with `-`
abbrev pub kept : List ℕ → ℕ
kept [] = 0
kept (b ∷ bs) = if is_special b then (if kept bs == 0 && is_dash b then 0 else suc (kept bs)) else 0

abbrev pub begins_with_dash : List ℕ → Bool
begins_with_dash [] = false
begins_with_dash (b ∷ bs) = is_dash b

-- how many of the bytes behind a special byte, a quote and a `%` belong to it
abbrev pub special_behind : ℕ → List ℕ → ℕ
special_behind b bs = if b == 60 && kept bs == 0 && begins_with_dash bs then 1 else kept bs

abbrev pub quoted_behind : List ℕ → ℕ
quoted_behind bs = if quote_ends bs then suc (prefix_len is_quotable bs) else 0

abbrev pub comment_behind : List ℕ → ℕ
comment_behind bs =
    if is_block bs then unwrap_or (up_to (codes "%END") bs) (length bs)
    else prefix_len is_in_line bs

-- how many of the bytes behind the first belong to it
abbrev pub behind_in : TokenStart → ℕ → List ℕ → ℕ
behind_in Blank b bs = 0
behind_in Word b bs = prefix_len is_ordinary bs
behind_in Sign b bs = special_behind b bs
behind_in Quote b bs = quoted_behind bs
behind_in Percent b bs = comment_behind bs
behind_in (Single kind) b bs = 0

abbrev pub length_behind : ℕ → List ℕ → ℕ
length_behind b bs = behind_in (start_of b) b bs

-- the kind of what bytes are, if all of them are what begins with the first, and it is a token
abbrev pub whole_kind : List ℕ → Option TokenKind
whole_kind [] = None
whole_kind (b ∷ bs) = if length_behind b bs == length bs then kind_beginning b bs else None

-- the token of this kind, if it is one
abbrev pub piece : Option TokenKind → List ℕ → ℕ → List Piece
piece None text i = []
piece (Some kind) text i = record { kind = kind; text = text; start = i } ∷ []

-- the tokens of the bytes, which stand at place i, when the first n of them belong to what is
-- before
abbrev pub lexed_behind : ℕ → ℕ → List ℕ → List Piece
lexed_behind i n [] = []
lexed_behind i (suc n) (b ∷ bs) = lexed_behind (suc i) n bs
lexed_behind i zero (b ∷ bs) =
    piece (kind_beginning b bs) (b ∷ take (length_behind b bs) bs) i
    ++ lexed_behind (suc i) (length_behind b bs) bs

-- the tokens of a text
abbrev pub lexed : List ℕ → List Piece
lexed bytes = lexed_behind 0 0 bytes

-- the tokens of a text, which stands at place start, from its byte i on
abbrev pub lexed_from : ℕ → ℕ → List ℕ → List Piece
lexed_from start i bytes = lexed_behind (start + i) 0 (drop i bytes)

-- Tokens of a text, which stands at place start, were added that begin from one byte on and before
-- another: with those to come from there they are the same as before.
pub record Advances (start : ℕ) (bytes : List ℕ) (old new : List Token) (at next : ℕ) : Type 0 where
  pub onward : at ≤ next
  pub within : next ≤ length bytes
  pub found : pieces_of new ++ lexed_from start next bytes ≡ pieces_of old
      ++ lexed_from start at bytes
