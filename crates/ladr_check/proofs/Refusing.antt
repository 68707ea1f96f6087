-- A refusal of a text of proofs is told in one line.
use Rattle.std.proofs.Common.{◌≡◌, inl, inr, ℕ, ◌==◌, not, ◌&&◌, Bool, true, false, if◌then◌else◌, List, [], ◌∷◌, ◌++◌, map, take, Option, Some, None, codes, refl, sym, subst, arith}
use Rattle.std.specs.Prelude.{nat_le, slice_get, slice_index}
use Rattle.std.specs.Fmt.{decimal}
use Rattle.std.specs.Option.{option_map_or}
use Rattle.std.proofs.lemmas.Bool.{and_from, and_parts}
use Rattle.std.proofs.lemmas.Bool.Decides.{nat_tests}
use Rattle.ladr_check.specs.Offered.{refuses_proofs}
use Rattle.ladr_formulas.specs.declared.styles.Mode.TheVariants.{Prover}
use Rattle.ladr_intake.specs.Refusals.{IsRefused, refusal_text, limit_text}
use Rattle.ladr_intake.specs.declared.stops.Refused.{Refused}
use Rattle.ladr_intake.specs.declared.stops.Refused.TheVariants.{Unreadable, Misuse, TooLarge}
use Rattle.ladr_io.specs.Streams.{Inflow}
use Rattle.ladr_lex.specs.Cuts.{Piece}
use Rattle.ladr_lex.specs.Misuses.{misuse_row}
use Rattle.ladr_lex.specs.declared.limits.TheConstants.{MOST_BYTES}
use Rattle.ladr_output.proofs.Standing.{is_unbroken, unbroken_append, decimal_unbroken}
use Rattle.ladr_output.specs.Telling.{as_line}
use Rattle.ladr_problem.specs.Places.{shown_byte, shown_len, shown, shown_at, IsReadError}
use Rattle.ladr_problem.specs.declared.refusal.Limit.{Limit}
use Rattle.ladr_problem.specs.declared.refusal.Limit.TheVariants as limits
use Rattle.ladr_problem.specs.declared.refusal.ReadError.{ReadError}
use Rattle.ladr_problem.specs.declared.refusal.ReadError.TheVariants as errors
use Rattle.proof_lines.specs.declared.fault.LineFault.{LineFault}
use Rattle.proof_lines.specs.declared.fault.LineFault.TheVariants as fault
use Rattle.proof_text.specs.Blocks.{end_of_block}
use Rattle.proof_text.specs.Refused.{byte_shown, token_shown, IsUnreadableAt, IsLineRefused, IsProofError}
use Rattle.proof_text.specs.Refused as refused

-- a byte that is shown ends no line
shown_within : (b : ℕ) → not (shown_byte b == 10) ≡ true
shown_within b = by (nat_le 33 b && nat_le b 126) refl
  where
    by : (t : Bool) → (nat_le 33 b && nat_le b 126) ≡ t → not ((if t then b else 63) == 10) ≡ true
    by true e = (let least = (and_parts (nat_le 33 b) (nat_le b 126) e).0 in grind (arith, nat_tests))
    by false e = refl

all_shown : (bs : List ℕ) → is_unbroken (map shown_byte bs) ≡ true
all_shown [] = refl
all_shown (b ∷ bs) = and_from (not (shown_byte b == 10)) (is_unbroken (map shown_byte bs)) (shown_within b) (all_shown bs)

byte_within : (bytes : List ℕ) (byte : ℕ) → is_unbroken (byte_shown bytes byte) ≡ true
byte_within bytes byte = by (slice_get bytes byte)
  where
    by : (o : Option ℕ) → is_unbroken (option_map_or (λ b. shown_byte b ∷ []) o (codes "end of input")) ≡ true
    by None = refl
    by (Some b) = and_from (not (shown_byte b == 10)) true (shown_within b) refl

at_within : (ps : List Piece) (byte : ℕ) → is_unbroken (shown_at ps byte) ≡ true
at_within [] byte = refl
at_within (p ∷ ps) byte = by (p.start == byte) (at_within ps byte)
  where
    by : (b : Bool) → is_unbroken (shown_at ps byte) ≡ true → is_unbroken (if b then shown p else shown_at ps byte) ≡ true
    by true others = all_shown (take (shown_len p.kind) p.text)
    by false others = others

token_within : (closed : Bool) (ts : List Piece) (k : ℕ) → is_unbroken (token_shown closed ts k) ≡ true
token_within closed ts k = by closed (slice_get ts k)
  where
    by : (closed : Bool) (o : Option Piece) → is_unbroken (option_map_or shown o (if closed then codes "====================" else codes "end of input")) ≡ true
    by true None = refl
    by false None = refl
    by closed (Some p) = all_shown (take (shown_len p.kind) p.text)

-- the token that is told stands within a line
abbrev IsToldWithin : ReadError → Type 0
IsToldWithin (errors.Unreadable place) = is_unbroken place.token ≡ true
IsToldWithin e = Unit {0}

by_byte : (bytes : List ℕ) (byte : ℕ) (e : ReadError) → IsUnreadableAt bytes byte e → IsToldWithin e
by_byte bytes byte (errors.Unreadable place) h = subst (λ (t : List ℕ). is_unbroken t ≡ true) (sym h.1.token_is) (byte_within bytes byte)
by_byte bytes byte (errors.Misuse place why) h = tt
by_byte bytes byte (errors.TooLarge b what) h = tt
by_byte bytes byte errors.Memory h = tt

by_problem : (bytes : List ℕ) (e : ReadError) → IsReadError Prover bytes e → IsToldWithin e
by_problem bytes (errors.Unreadable place) h = subst (λ (t : List ℕ). is_unbroken t ≡ true) (sym h.1.token) (at_within h.1.tokens place.byte)
by_problem bytes (errors.Misuse place why) h = tt
by_problem bytes (errors.TooLarge b what) h = tt
by_problem bytes errors.Memory h = tt

by_line : (bytes : List ℕ) (end : ℕ) (closed : Bool) (ts : List Piece) (why : LineFault) (e : ReadError) → IsLineRefused bytes end closed ts why e → IsToldWithin e
by_line bytes end closed ts why (errors.Misuse place row) h = tt
by_line bytes end closed ts why (errors.TooLarge b what) h = tt
by_line bytes end closed ts why errors.Memory h = tt
by_line bytes end closed ts (fault.Bad k) (errors.Unreadable place) h = subst (λ (t : List ℕ). is_unbroken t ≡ true) (sym h.1.token_is) (token_within closed ts k)
by_line bytes end closed ts fault.Deep (errors.Unreadable place) h = absurd h
by_line bytes end closed ts (fault.Misused m) (errors.Unreadable place) h = absurd h
by_line bytes end closed ts fault.Memory (errors.Unreadable place) h = absurd h

told_within : (bytes : List ℕ) (e : ReadError) → IsProofError bytes e → IsToldWithin e
told_within bytes e (refused.frame byte un at) = by_byte bytes byte e at
told_within bytes e (refused.problem framed is) = by_problem _ e is
told_within bytes e (refused.line has h) = by_line bytes (end_of_block h.block) h.block.closed h.here.left h.here.why e h.here.refused
told_within bytes e (refused.open_block has read unclosed at) = by_byte bytes _ e at
told_within bytes e refused.memory = tt

-- a line that begins with the program's name
pub record IsOneLine (text : List ℕ) : Type 0 where
  pub line : List ℕ
  pub is : text ≡ as_line line
  pub within : is_unbroken line ≡ true
  pub opens : slice_index line 0 ≡ 108

two : (a b : List ℕ) → is_unbroken a ≡ true → is_unbroken b ≡ true → is_unbroken (a ++ b) ≡ true
two = unbroken_append

limit_within : (what : Limit) → is_unbroken (limit_text what) ≡ true
limit_within limits.Input = refl
limit_within limits.Nesting = refl
limit_within limits.Symbols = refl
limit_within limits.Arity = refl
limit_within limits.Distinct = refl

placed : (front : List ℕ) (byte row column : ℕ) → is_unbroken front ≡ true → is_unbroken (front ++ decimal byte ++ codes ", line " ++ decimal row ++ codes ", column " ++ decimal column) ≡ true
placed front byte row column h =
    let a = two (front ++ decimal byte) (codes ", line ") (two front (decimal byte) h (decimal_unbroken byte)) refl in
    let b = two (front ++ decimal byte ++ codes ", line " ++ decimal row) (codes ", column ") (two (front ++ decimal byte ++ codes ", line ") (decimal row) a (decimal_unbroken row)) refl in
    two (front ++ decimal byte ++ codes ", line " ++ decimal row ++ codes ", column ") (decimal column) b (decimal_unbroken column)

too_large : (byte : ℕ) (what : Limit) → IsOneLine (refusal_text (TooLarge byte what))
too_large byte what = record {
  line = codes "ladr: too large at byte " ++ decimal byte ++ codes ": " ++ limit_text what;
  is = refl;
  within = two (codes "ladr: too large at byte " ++ decimal byte ++ codes ": ") (limit_text what) (two (codes "ladr: too large at byte " ++ decimal byte) (codes ": ") (two (codes "ladr: too large at byte ") (decimal byte) refl (decimal_unbroken byte)) refl) (limit_within what);
  opens = refl;
}

one_line : (bytes : List ℕ) (why : Refused) → refuses_proofs bytes why → IsOneLine (refusal_text why)
one_line bytes (Unreadable place) h =
    let front = codes "ladr: unreadable at byte " ++ decimal place.byte ++ codes ", line " ++ decimal place.line ++ codes ", column " ++ decimal place.column in
    record {
      line = front ++ codes ": " ++ place.token;
      is = refl;
      within = two (front ++ codes ": ") place.token (two front (codes ": ") (placed (codes "ladr: unreadable at byte ") place.byte place.line place.column refl) refl) (told_within bytes (errors.Unreadable place) h);
      opens = refl;
    }
one_line bytes (Misuse place why) h =
    let front = codes "ladr: misuse " ++ decimal (misuse_row why) ++ codes " at byte " in
    record {
      line = front ++ decimal place.byte ++ codes ", line " ++ decimal place.line ++ codes ", column " ++ decimal place.column;
      is = refl;
      within = placed front place.byte place.line place.column (two (codes "ladr: misuse " ++ decimal (misuse_row why)) (codes " at byte ") (two (codes "ladr: misuse ") (decimal (misuse_row why)) refl (decimal_unbroken (misuse_row why))) refl);
      opens = refl;
    }
one_line bytes (TooLarge byte what) h = too_large byte what

pub refusal_line : (a b : Inflow) (bytes : List ℕ) (why : Refused) → IsRefused refuses_proofs a b bytes why → IsOneLine (refusal_text why)
refusal_line a b bytes why (inl h) = one_line bytes why h.1
refusal_line a b bytes why (inr h) = subst (λ (w : Refused). IsOneLine (refusal_text w)) (sym h.1) (too_large MOST_BYTES limits.Input)
