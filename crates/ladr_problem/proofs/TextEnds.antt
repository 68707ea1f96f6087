-- Where a text ends no token begins.
use Rattle.std.proofs.Common.{◌≡◌, ℕ, ◌+◌, ◌<◌, ◌≤◌, Bool, true, false, List, [], ◌∷◌, Some, length, refl, ap, ◌∙◌, arith, codes}
use Rattle.std.specs.Prelude.{◌==◌, if◌then◌else◌, IsTrue}
use Rattle.std.proofs.lemmas.Bool.{eqb-true}
use Rattle.std.proofs.lemmas.List.{length-append}
use Rattle.ladr_lex.specs.Cuts.{Piece, Cuts, nothing, gap, token, can_be}
use Rattle.ladr_lex.specs.declared.token.TokenKind.{TokenKind}
use Rattle.ladr_lex.specs.declared.token.TokenKind.TheVariants.{Open, Close, LeftSquare, RightSquare, Comma, Stop, Ordinary, Quoted, Special, Unreadable}
use Rattle.ladr_problem.specs.Places.{shown_at, shown}

-- a token has a byte
has_byte : (kind : TokenKind) (text : List ℕ) → IsTrue (can_be (Some kind) text) → 0 < length text
has_byte kind (b ∷ bs) h = omega arith
has_byte Open [] h = absurd (cc)
has_byte Close [] h = absurd (cc)
has_byte LeftSquare [] h = absurd (cc)
has_byte RightSquare [] h = absurd (cc)
has_byte Comma [] h = absurd (cc)
has_byte Stop [] h = absurd (cc)
has_byte Ordinary [] h = absurd (cc)
has_byte Quoted [] h = absurd (cc)
has_byte Special [] h = absurd (cc)
has_byte Unreadable [] h = absurd (cc)

apart : (i byte : ℕ) → i < byte → (i == byte) ≡ false
apart i byte h = by (i == byte) refl
  where
    by : (b : Bool) → (i == byte) ≡ b → b ≡ false
    by false e = refl
    by true e = absurd (omega (arith, eqb-true i byte e))

none_begins : {i : ℕ} {bytes : List ℕ} {ts : List Piece} (byte : ℕ) → Cuts i bytes ts → i + length bytes ≤ byte → shown_at ts byte ≡ codes "end of input"
none_begins byte nothing h = refl
none_begins byte (gap {i} {text} {rest} fits c) h = none_begins byte c (omega (arith, h, length-append text rest))
none_begins byte (token {i} {text} {rest} {ts} kind fits c) h =
    let t : Piece = record { kind = kind; text = text; start = i } in
    ap (λ (b : Bool). if b then shown t else shown_at ts byte) (apart i byte (omega (arith, h, length-append text rest, has_byte kind text fits.fits)))
    ∙ none_begins byte c (omega (arith, h, length-append text rest))

pub none_shown : (bytes : List ℕ) (ts : List Piece) (byte : ℕ) → Cuts 0 bytes ts → length bytes ≤ byte → shown_at ts byte ≡ codes "end of input"
none_shown bytes ts byte c h = none_begins byte c (omega (arith, h))
