-- Full stops among tokens, and the item that ends with the first.
use Rattle.std.proofs.Common.{◌≡◌, ℕ, ◌+◌, ◌<◌, Bool, true, false, ◌||◌, List, [], ◌∷◌, ◌++◌, length, drop, get_or, Some, None, inl, inr, refl, sym, ap, ◌∙◌, subst, arith}
use Rattle.std.specs.Prelude.{◌==◌, is_some, if◌then◌else◌}
use Rattle.std.proofs.lemmas.Bool.{cases_Bool, eqb-true}
use Rattle.std.proofs.lemmas.List.{drop_all}
use Rattle.ladr_lex.specs.Bytes.{is_blank, is_ordinary, is_special}
use Rattle.ladr_lex.specs.Cuts.{Piece, piece_of, pieces_of}
use Rattle.ladr_lex.specs.Item.{is_stop, has_stop, IsItem, stopped, last, CutsItem}
use Rattle.ladr_lex.specs.Lexed.{kind_begun_by, kind_beginning, length_behind, quote_ends, is_block, is_ended, lexed_from, Advances}
use Rattle.ladr_lex.specs.Starts.{start_of}
use Rattle.ladr_lex.specs.Tokens.{token_kind}
use Rattle.ladr_lex.specs.declared.bytes.TokenStart.{TokenStart}
use Rattle.ladr_lex.specs.declared.bytes.TokenStart.TheVariants.{Blank, Word, Sign, Quote, Percent, Single}
use Rattle.ladr_lex.specs.declared.token.Token.{Token}
use Rattle.ladr_lex.specs.declared.token.TokenKind.{TokenKind}
use Rattle.ladr_lex.specs.declared.token.TokenKind.TheVariants.{Quoted, Unreadable}
use Rattle.ladr_lex.proofs.Steps.{pieces-append}

-- whether a full stop begins so
abbrev begins_stop : TokenStart → Bool
begins_stop Blank = false
begins_stop Word = false
begins_stop Sign = false
begins_stop Quote = false
begins_stop Percent = false
begins_stop (Single kind) = is_stop kind

quote_begun : (ends : Bool) (k : TokenKind) → (if ends then Some Quoted else Some Unreadable) ≡ Some k → is_stop k ≡ false
quote_begun true k h = cc
quote_begun false k h = cc

percent_begun : (block ended : Bool) (k : TokenKind) → (if block then (if ended then None else Some Unreadable) else None) ≡ Some k → is_stop k ≡ false
percent_begun true true k h = cc
percent_begun true false k h = cc
percent_begun false ended k h = cc

stop_begun : (s : TokenStart) (bs : List ℕ) (k : TokenKind) → kind_begun_by s bs ≡ Some k → is_stop k ≡ begins_stop s
stop_begun Blank bs k h = cc
stop_begun Word bs k h = cc
stop_begun Sign bs k h = cc
stop_begun Quote bs k h = quote_begun (quote_ends bs) k h
stop_begun Percent bs k h = percent_begun (is_block bs) (is_ended bs) k h
stop_begun (Single kind) bs k h = cc

none_begun : (s : TokenStart) (bs : List ℕ) → kind_begun_by s bs ≡ None → begins_stop s ≡ false
none_begun Blank bs h = refl
none_begun Word bs h = refl
none_begun Sign bs h = refl
none_begun Quote bs h = refl
none_begun Percent bs h = refl
none_begun (Single kind) bs h = cc

stop_byte : begins_stop (start_of 46) ≡ true
unfolding start_of is_special is_ordinary is_blank
stop_byte = refl

other_byte : (b : ℕ) → (b == 46) ≡ false → begins_stop (start_of b) ≡ false
unfolding start_of
other_byte b h = grind arith

stop_start : (b : ℕ) → begins_stop (start_of b) ≡ (b == 46)
stop_start b =
    elim (cases_Bool (b == 46)) [
      | inl y ↦ ap (λ (c : ℕ). begins_stop (start_of c)) (eqb-true b 46 y) ∙ stop_byte ∙ sym y
      | inr n ↦ other_byte b n ∙ sym n
    ]

-- a token is a full stop where its first byte is one
pub stop_told : (b : ℕ) (bs : List ℕ) (k : TokenKind) → kind_beginning b bs ≡ Some k → is_stop k ≡ (b == 46)
stop_told b bs k h = stop_begun (start_of b) bs k h ∙ stop_start b

pub none_told : (b : ℕ) (bs : List ℕ) → kind_beginning b bs ≡ None → (b == 46) ≡ false
none_told b bs h = sym (stop_start b) ∙ none_begun (start_of b) bs h

-- and it is a token by itself
pub stop_is_token : (bytes : List ℕ) (at : ℕ) → get_or bytes at 0 ≡ 46 → is_some (kind_beginning (get_or bytes at 0) (drop (at + 1) bytes)) ≡ true
unfolding start_of is_special is_ordinary is_blank
stop_is_token bytes at h = ap (λ (b : ℕ). is_some (kind_beginning b (drop (at + 1) bytes))) h

pub stop_ends : (bytes : List ℕ) (at : ℕ) → get_or bytes at 0 ≡ 46 → at + 1 ≡ at + 1 + length_behind (get_or bytes at 0) (drop (at + 1) bytes)
unfolding start_of is_special is_ordinary is_blank
stop_ends bytes at h =
    let alone : length_behind (get_or bytes at 0) (drop (at + 1) bytes) ≡ 0 = ap (λ (b : ℕ). length_behind b (drop (at + 1) bytes)) h in
    omega (arith, alone)

has_stop-append : (ps : List Piece) (p : Piece) → has_stop (ps ++ p ∷ []) ≡ (has_stop ps || is_stop p.kind)
has_stop-append [] p = grind arith
has_stop-append (q ∷ ps) p = grind (arith, has_stop-append ps p)

-- one token more
pub stop_pushed : (old new : List Token) (t : Token) (b : Bool) → new ≡ old ++ t ∷ [] → is_stop (token_kind t) ≡ b → has_stop (pieces_of new) ≡ (has_stop (pieces_of old) || b)
stop_pushed old new t b pushed h =
    ap (λ (l : List Token). has_stop (pieces_of l)) pushed ∙ ap has_stop (pieces-append old (t ∷ [])) ∙ has_stop-append (pieces_of old) (piece_of t) ∙ ap (λ (c : Bool). has_stop (pieces_of old) || c) h

pub or_none : (a b : Bool) → b ≡ false → (a || b) ≡ a
or_none true b h = refl
or_none false b h = h

-- nothing but a full stop is one
pub same_stops : (new old : Bool) (b : Bool) → new ≡ (old || b) → b ≡ false → new ≡ old
same_stops new old b h none = h ∙ or_none old b none

module _ (first : ℕ) (bytes : List ℕ) (at : ℕ) (place : at < length bytes) where
  -- where no full stop is ahead all that is left is the item
  pub last_item : (old new : List Token) (end : ℕ) → old ≡ [] → Advances first bytes old new at end → end ≡ length bytes → has_stop (pieces_of new) ≡ false → CutsItem first bytes (pieces_of new) at end
  last_item old new end empty a e none = record {
    onward = omega arith;
    within = a.within;
    cut = sym (a.found ∙ ap (λ (ts : List Token). pieces_of ts ++ lexed_from first at bytes) empty);
    whole = subst (IsItem (pieces_of new)) (sym (drop_all end bytes (omega arith))) (last none);
  }

  -- else the item ends with it
  pub stopped_item :
      (old mid new : List Token) (t : Token) (end : ℕ) → old ≡ [] → Advances first bytes old mid at end → has_stop (pieces_of mid) ≡ false →
      Advances first bytes mid new end (end + 1) → new ≡ mid ++ t ∷ [] → is_stop (token_kind t) ≡ true → CutsItem first bytes (pieces_of new) at (end + 1)
  stopped_item old mid new t end empty a none b pushed stop = record {
    onward = omega (arith, a.onward);
    within = b.within;
    cut = sym (b.found ∙ (a.found ∙ ap (λ (ts : List Token). pieces_of ts ++ lexed_from first at bytes) empty));
    whole = subst (λ (ps : List Piece). IsItem ps (drop (end + 1) bytes)) (sym (ap pieces_of pushed ∙ pieces-append mid (t ∷ []))) (stopped (pieces_of mid) (piece_of t) none stop);
  }
