-- What one token more does to the tokens that are ahead.
use Rattle.std.proofs.Common.{◌≡◌, ℕ, suc, ◌+◌, ◌-◌, ◌≤◌, ◌<◌, true, List, [], ◌∷◌, ◌++◌, length, take, drop, get_or, Option, Some, None, Result, Ok, Err, refl, sym, ap, ◌∙◌, subst, append_assoc, arith, drop-drop}
use Rattle.std.proofs.Common.{length-drop, add-zero}
use Rattle.std.proofs.lemmas.Bool.Decides.{nat_tests}
use Rattle.ladr_lex.specs.Bytes.{is_blank, is_ordinary, is_special}
use Rattle.ladr_lex.specs.declared.token.TokenKind.{TokenKind}
use Rattle.ladr_lex.specs.declared.token.TokenKind.TheVariants.{Special}
use Rattle.ladr_lex.specs.Cuts.{Piece, piece_of, pieces_of, Cuts}
use Rattle.ladr_lex.specs.Lexed.{kind_beginning, behind_in, length_behind, begins_with_dash, kept, piece, lexed_behind, lexed_from, Advances}
use Rattle.ladr_lex.specs.Starts.{start_of, kind_in}
use Rattle.ladr_lex.specs.Tokens.{token_kind, token_text, token_start}
use Rattle.ladr_lex.proofs.Lexing.{behind_within, cuts_at}
use Rattle.ladr_lex.proofs.Unique.{lexed_front}
use Rattle.ladr_lex.specs.declared.token.Token.{Token}
use Rattle.std.proofs.lemmas.List.{drop_more, drop_all, append-nil}
use Rattle.std.proofs.lemmas.Bool.{eqb-true, cond_both, and_parts}
use Rattle.std.specs.Prelude.{IfOk, is_some, ◌==◌, ◌&&◌}
use Rattle.ladr_lex.proofs.Classes.{special_start}
use Rattle.ladr_lex.proofs.Kept.{kept_behind}
use Rattle.ladr_lex.proofs.KindLemmas.{kind_told}

-- the tokens from a place on are the one that begins there, if one does, and those behind it
lexed_place : (first : ℕ) (bytes : List ℕ) (at end : ℕ) → at < length bytes → end ≡ at + 1 + length_behind (get_or bytes at 0) (drop (at + 1) bytes) →
    lexed_from first at bytes ≡ piece (kind_beginning (get_or bytes at 0) (drop (at + 1) bytes)) (take (end - at) (drop at bytes)) (first + at) ++ lexed_from first end bytes
lexed_place first bytes at end h e =
    let b = get_or bytes at 0 in
    let bs = drop (at + 1) bytes in
    let here : drop at bytes ≡ b ∷ bs = drop_more bytes at 0 h in
    let text : b ∷ take (length_behind b bs) bs ≡ take (end - at) (drop at bytes) =
    ap (λ (n : ℕ). take n (b ∷ bs)) {x = suc (length_behind b bs)} {y = end - at} (omega arith) ∙ ap (take (end - at)) (sym here) in
    let place : suc (first + at) + length_behind b bs ≡ first + end = omega arith in
    let rest : drop (length_behind b bs) bs ≡ drop end bytes = drop-drop (length_behind b bs) (at + 1) bytes ∙ ap (λ (n : ℕ). drop n bytes) (sym e) in
    ap (lexed_behind (first + at) 0) here ∙ lexed_front (first + at) b bs ∙ (λ i. piece (kind_beginning b bs) (text i) (first + at) ++ lexed_behind (place i) 0 (rest i))

end_within : (bytes : List ℕ) (at : ℕ) → at < length bytes → at + 1 + length_behind (get_or bytes at 0) (drop (at + 1) bytes) ≤ length bytes
end_within bytes at h = omega (arith, behind_within (get_or bytes at 0) (drop (at + 1) bytes), length-drop (at + 1) bytes)

pub pieces-append : (ts us : List Token) → pieces_of (ts ++ us) ≡ pieces_of ts ++ pieces_of us
pieces-append [] us = refl
pieces-append (t ∷ ts) us = ap (λ (l : List Piece). piece_of t ∷ l) (pieces-append ts us)

advances_add : (first : ℕ) (bytes : List ℕ) (old : List Token) (t : Token) (at end : ℕ) → at < length bytes → kind_beginning (get_or bytes at 0) (drop (at + 1) bytes) ≡ Some (token_kind t) →
    end ≡ at + 1 + length_behind (get_or bytes at 0) (drop (at + 1) bytes) → token_text t ≡ take (end - at) (drop at bytes) → token_start t ≡ first + at →
    Advances first bytes old (old ++ t ∷ []) at end
advances_add first bytes old t at end h k e text start = record {
  onward = omega arith;
  within = omega (arith, end_within bytes at h);
  found =
      let ahead = lexed_place first bytes at end h e in
      let here : piece (Some (token_kind t)) (take (end - at) (drop at bytes)) (first + at) ≡ piece_of t ∷ [] = λ i. record { kind = token_kind t; text = sym text i; start = sym start i } ∷ [] in
      ap (λ (l : List Piece). l ++ lexed_from first end bytes) (pieces-append old (t ∷ [])) ∙
      append_assoc (pieces_of old) (piece_of t ∷ []) (lexed_from first end bytes) ∙
      ap (λ (l : List Piece). pieces_of old ++ l) (ap (λ (l : List Piece). l ++ lexed_from first end bytes) (sym here ∙ ap (λ (o : Option TokenKind). piece o (take (end - at) (drop at bytes)) (first + at)) (sym k)) ∙ sym ahead);
}

-- the kind of the bytes of a token is that of what begins with them
pub text_kind : (bytes : List ℕ) (t : Token) (at end : ℕ) → at < length bytes → is_some (kind_beginning (get_or bytes at 0) (drop (at + 1) bytes)) ≡ true →
    end ≡ at + 1 + length_behind (get_or bytes at 0) (drop (at + 1) bytes) → token_text t ≡ take (end - at) (drop at bytes) →
    kind_beginning (get_or bytes at 0) (drop (at + 1) bytes) ≡ Some (token_kind t)
unfolding token_kind
text_kind bytes t at end h k e text =
    let b = get_or bytes at 0 in
    let bs = drop (at + 1) bytes in
    let here : take (end - at) (drop at bytes) ≡ b ∷ take (length_behind b bs) bs =
    ap (take (end - at)) (drop_more bytes at 0 h) ∙ ap (λ (n : ℕ). take n (b ∷ bs)) {x = end - at} {y = suc (length_behind b bs)} (omega arith) in
    kind_told b bs k ∙ ap (λ (l : List ℕ). Some (kind_in l)) (sym (text ∙ here))

-- what `add` does
pub advances_pushed : (first : ℕ) (bytes : List ℕ) (old new : List Token) (t : Token) (at end : ℕ) → new ≡ old ++ t ∷ [] → at < length bytes →
    is_some (kind_beginning (get_or bytes at 0) (drop (at + 1) bytes)) ≡ true →
    end ≡ at + 1 + length_behind (get_or bytes at 0) (drop (at + 1) bytes) → token_text t ≡ take (end - at) (drop at bytes) → token_start t ≡ first + at →
    Advances first bytes old new at end
advances_pushed first bytes old new t at end pushed h k e text start =
    subst (λ (l : List Token). Advances first bytes old l at end) (sym pushed)
    (advances_add first bytes old t at end h (text_kind bytes t at end h k e text) e text start)

-- white space and comments are passed over
pub advances_gap : (first : ℕ) (bytes : List ℕ) (old : List Token) (at end : ℕ) → at < length bytes → kind_beginning (get_or bytes at 0) (drop (at + 1) bytes) ≡ None →
    end ≡ at + 1 + length_behind (get_or bytes at 0) (drop (at + 1) bytes) → Advances first bytes old old at end
advances_gap first bytes old at end h k e = record {
  onward = omega arith;
  within = omega (arith, end_within bytes at h);
  found =
      let ahead = lexed_place first bytes at end h e in
      ap (λ (l : List Piece). pieces_of old ++ l) (sym (ahead ∙ ap (λ (o : Option TokenKind). piece o (take (end - at) (drop at bytes)) (first + at) ++ lexed_from first end bytes) k));
}

pub advances_both : (first : ℕ) (bytes : List ℕ) (old mid new : List Token) (at place next : ℕ) → Advances first bytes old mid at place → Advances first bytes mid new place next → Advances first bytes old new at next
advances_both first bytes old mid new at place next a b = record { onward = omega (arith, a.onward, b.onward); within = b.within; found = b.found ∙ a.found }

pub advances_then : {E : Type 0} (first : ℕ) (bytes : List ℕ) (old mid new : List Token) (at place : ℕ) (r : Result ℕ E) → at < place → Advances first bytes old mid at place →
    IfOk r (λ (next : ℕ). Advances first bytes mid new place next) → IfOk r (λ (next : ℕ). Advances first bytes old new at next × (at < next))
advances_then first bytes old mid new at place (Ok next) h a b = (advances_both first bytes old mid new at place next a b, omega (arith, b.onward))
advances_then first bytes old mid new at place (Err e) h a b = tt

-- a `-` before which no longer token ends is a token
pub record IsDash (bytes : List ℕ) (at : ℕ) : Type 0 where
  pub kind : kind_beginning (get_or bytes at 0) (drop (at + 1) bytes) ≡ Some Special
  pub end : at + 1 ≡ at + 1 + length_behind (get_or bytes at 0) (drop (at + 1) bytes)
  pub ahead : kept (drop (at + 1) bytes) ≡ 0

dash_none : (bs : List ℕ) → kept (45 ∷ bs) ≡ 0 → kept bs ≡ 0
unfolding is_special
dash_none bs h = grind (arith, nat_tests)

dash_kind : (bs : List ℕ) → kind_beginning 45 bs ≡ Some Special
unfolding start_of is_special is_ordinary is_blank
dash_kind bs = refl

dash_behind : (bs : List ℕ) → length_behind 45 bs ≡ kept bs
unfolding start_of is_special is_ordinary is_blank
dash_behind bs = refl

pub dash_alone : (bytes : List ℕ) (at : ℕ) → at < length bytes → get_or bytes at 0 ≡ 45 → kept (drop at bytes) ≡ 0 → IsDash bytes at
dash_alone bytes at h d k =
    let ahead = dash_none (drop (at + 1) bytes) (ap (λ (b : ℕ). kept (b ∷ drop (at + 1) bytes)) (sym d) ∙ ap kept (sym (drop_more bytes at 0 h)) ∙ k) in
    record {
      kind = ap (λ (b : ℕ). kind_beginning b (drop (at + 1) bytes)) d ∙ dash_kind (drop (at + 1) bytes);
      end = omega (arith, ap (λ (b : ℕ). length_behind b (drop (at + 1) bytes)) d, dash_behind (drop (at + 1) bytes), ahead);
      ahead = ahead;
    }

-- behind a special token only `-` is special up to a byte that isn't
arrow_rest : (bs : List ℕ) → kept bs ≡ 0 → begins_with_dash bs ≡ true → kept (drop 1 bs) ≡ 0
arrow_rest [] k d = refl
arrow_rest (b ∷ bs) k d = dash_none bs (ap (λ (c : ℕ). kept (c ∷ bs)) (sym (eqb-true b 45 d)) ∙ k)

special_rest : (b : ℕ) (bs : List ℕ) → is_special b ≡ true → kept (drop (length_behind b bs) bs) ≡ 0
special_rest b bs s =
    ap (λ t. kept (drop (behind_in t b bs) bs)) (special_start b s) ∙
    cond_both (b == 60 && kept bs == 0 && begins_with_dash bs) 1 (kept bs) (λ (n : ℕ). kept (drop n bs) ≡ 0)
    (λ t. let parts = and_parts _ _ t in arrow_rest bs (eqb-true (kept bs) 0 (and_parts _ _ parts.0).1) parts.1)
    (λ f. kept_behind bs)

pub special_place : (bytes : List ℕ) (at end : ℕ) → is_special (get_or bytes at 0) ≡ true → end ≡ at + 1 + length_behind (get_or bytes at 0) (drop (at + 1) bytes) → kept (drop end bytes) ≡ 0
special_place bytes at end s e =
    ap (λ (n : ℕ). kept (drop n bytes)) e ∙ ap kept (sym (drop-drop (length_behind (get_or bytes at 0) (drop (at + 1) bytes)) (at + 1) bytes)) ∙ special_rest (get_or bytes at 0) (drop (at + 1) bytes) s

-- where no text is left the tokens found cut it all
pub all_found : (first : ℕ) (bytes : List ℕ) (ts : List Token) (at : ℕ) → Advances first bytes [] ts 0 at → length bytes ≤ at → Cuts first bytes (pieces_of ts)
all_found first bytes ts at a h =
    let none : lexed_from first at bytes ≡ [] = ap (lexed_behind (first + at) 0) (drop_all at bytes h) in
    let begin : lexed_behind first 0 bytes ≡ lexed_from first 0 bytes = ap (λ (i : ℕ). lexed_behind i 0 bytes) (sym (add-zero first)) in
    let all : lexed_behind first 0 bytes ≡ pieces_of ts = begin ∙ sym a.found ∙ ap (λ (l : List Piece). pieces_of ts ++ l) none ∙ append-nil (pieces_of ts) in
    subst (Cuts first bytes) all (cuts_at first bytes)
