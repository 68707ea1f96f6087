-- Where an input is refused.
use Rattle.std.specs.Prelude.{◌≡◌, ℕ, ◌==◌, nat_le, ◌&&◌, if◌then◌else◌, List, [], ◌∷◌, map, take, codes}
use Rattle.ladr_lex.specs.Cuts.{Piece, Cuts}
use Rattle.ladr_lex.specs.Places.{line_of, column_of}
use Rattle.ladr_lex.specs.declared.token.TokenKind.{TokenKind}
use Rattle.ladr_lex.specs.declared.token.TokenKind.TheVariants.{Unreadable}
use Rattle.ladr_problem.specs.File.{Says, unreadable, misused, too_large}
use Rattle.ladr_problem.specs.declared.refusal.Place.{Place}
use Rattle.ladr_problem.specs.declared.refusal.ReadError.{ReadError}
use Rattle.ladr_problem.specs.declared.refusal.ReadError.TheVariants as refusal
use Rattle.ladr_problem.specs.declared.stop.RefusalAt.{RefusalAt}
use Rattle.ladr_problem.specs.declared.stop.RefusalAt.TheVariants as stops
use Rattle.ladr_formulas.specs.declared.styles.Mode.{Mode}

-- a byte that can be shown is, and another one is a question mark
abbrev pub shown_byte : ℕ → ℕ
shown_byte b = if nat_le 33 b && nat_le b 126 then b else 63

-- of a token at most twenty bytes are shown, of what isn't one its first
abbrev pub shown_len : TokenKind → ℕ
shown_len Unreadable = 1
shown_len kind = 20

abbrev pub shown : Piece → List ℕ
shown p = map shown_byte (take (shown_len p.kind) p.text)

-- what is shown of the token that begins at a byte; where none does the input ends
abbrev pub shown_at : List Piece → ℕ → List ℕ
shown_at [] byte = codes "end of input"
shown_at (p ∷ ps) byte = if p.start == byte then shown p else shown_at ps byte

-- the line, the column and the token of a byte
pub record IsPlace (bytes : List ℕ) (p : Place) : Type 0 where
  pub line : p.line ≡ line_of bytes p.byte
  pub column : p.column ≡ column_of bytes p.byte
  pub tokens : List Piece
  pub cut : Cuts 0 bytes tokens
  pub token : p.token ≡ shown_at tokens p.byte

-- the bytes are refused so; nothing is said of memory
abbrev pub IsReadError : Mode → List ℕ → ReadError → Type 0
IsReadError m bytes (refusal.Unreadable place) =
    Says m bytes (unreadable place.byte) × IsPlace bytes place
IsReadError m bytes (refusal.Misuse place row) =
    Says m bytes (misused place.byte row) × IsPlace bytes place
IsReadError m bytes (refusal.TooLarge byte what) = Says m bytes (too_large byte what)
IsReadError m bytes refusal.Memory = Unit {0}

-- the refusal with its place
abbrev pub IsPlaced : List ℕ → RefusalAt → ReadError → Type 0
IsPlaced bytes (stops.Unreadable byte) (refusal.Unreadable place) =
    (place.byte ≡ byte) × IsPlace bytes place
IsPlaced bytes (stops.Misuse byte row) (refusal.Misuse place r) =
    (place.byte ≡ byte) × (r ≡ row) × IsPlace bytes place
IsPlaced bytes (stops.TooLarge byte what) (refusal.TooLarge b w) = (b ≡ byte) × (w ≡ what)
IsPlaced bytes stop refusal.Memory = Unit {0}
IsPlaced bytes stop error = ⊥
