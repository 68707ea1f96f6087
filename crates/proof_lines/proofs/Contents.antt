-- The content that tokens begin with.
use Rattle.std.proofs.Common.{◌≡◌, ◌∙◌, ℕ, ◌+◌, ◌<◌, Bool, true, false, List, [], ◌∷◌, ◌++◌, length, get_or, take, drop, refl, ap, sym, suc, append_assoc}
use Rattle.std.proofs.lemmas.List.{take_more, drop_more}
use Rattle.ladr_commands.specs.Wanted.{is_stop}
use Rattle.ladr_lex.specs.Lexeme.{Lexeme, lexeme_of, lexemes_of}
use Rattle.ladr_lex.specs.declared.token.Token.{Token}
use Rattle.proof_lines.specs.ContentTokens.{content_in, behind_content_in}

-- the tokens cut in two: their content and what is behind it
pub content_whole : (ts : List Lexeme) → content_in ts ++ behind_content_in ts ≡ ts
content_whole [] = refl
content_whole (t ∷ ts) = by (is_stop t) refl (content_whole ts)
  where
    by : (b : Bool) → is_stop t ≡ b → content_in ts ++ behind_content_in ts ≡ ts → content_in (t ∷ ts) ++ behind_content_in (t ∷ ts) ≡ t ∷ ts
    by true e h = rw e refl
    by false e h = rw e (ap (λ us. t ∷ us) h)

pub lexemes_append : (xs ys : List Token) → lexemes_of (xs ++ ys) ≡ lexemes_of xs ++ lexemes_of ys
lexemes_append [] ys = refl
lexemes_append (x ∷ xs) ys = ap (λ us. lexeme_of x ∷ us) (lexemes_append xs ys)

-- no full stop stands in the first n tokens
abbrev pub PassesStops : ℕ → List Token → Type 0
PassesStops n ts =
    (content_in (lexemes_of ts) ≡ lexemes_of (take n ts) ++ content_in (lexemes_of (drop n ts)))
    × (behind_content_in (lexemes_of ts) ≡ behind_content_in (lexemes_of (drop n ts)))

pub passes_more_at :
    (ts : List Token) (i : ℕ) (d : Token) → i < length ts → is_stop (lexeme_of (get_or ts i d)) ≡ false →
    PassesStops i ts → PassesStops (i + 1) ts
passes_more_at ts i d h s p =
    let cut : drop i ts ≡ get_or ts i d ∷ drop (i + 1) ts = drop_more ts i d h in
    let more : take (i + 1) ts ≡ take i ts ++ get_or ts i d ∷ [] = take_more ts i d h in
    let content : content_in (lexemes_of (drop i ts)) ≡ lexeme_of (get_or ts i d) ∷ content_in (lexemes_of (drop (i + 1) ts)) = rw (cut, s) refl in
    let behind : behind_content_in (lexemes_of (drop i ts)) ≡ behind_content_in (lexemes_of (drop (i + 1) ts)) = rw (cut, s) refl in (
      p.0 ∙ ap (λ us. lexemes_of (take i ts) ++ us) content
          ∙ sym (append_assoc (lexemes_of (take i ts)) (lexeme_of (get_or ts i d) ∷ []) (content_in (lexemes_of (drop (i + 1) ts))))
          ∙ ap (λ us. us ++ content_in (lexemes_of (drop (i + 1) ts))) (sym (ap lexemes_of more ∙ lexemes_append (take i ts) (get_or ts i d ∷ []))),
      p.1 ∙ behind,
    )

-- at the first full stop the content ends
pub stopped_at :
    (ts : List Token) (i : ℕ) (d : Token) → i < length ts → is_stop (lexeme_of (get_or ts i d)) ≡ true → PassesStops i ts →
    (lexemes_of (take (i + 1) ts) ≡ content_in (lexemes_of ts)) × (lexemes_of (drop (i + 1) ts) ≡ behind_content_in (lexemes_of ts))
stopped_at ts i d h s p =
    let cut : drop i ts ≡ get_or ts i d ∷ drop (i + 1) ts = drop_more ts i d h in
    let more : take (i + 1) ts ≡ take i ts ++ get_or ts i d ∷ [] = take_more ts i d h in
    let content : content_in (lexemes_of (drop i ts)) ≡ lexeme_of (get_or ts i d) ∷ [] = rw (cut, s) refl in
    let behind : behind_content_in (lexemes_of (drop i ts)) ≡ lexemes_of (drop (i + 1) ts) = rw (cut, s) refl in (
      ap lexemes_of more ∙ lexemes_append (take i ts) (get_or ts i d ∷ []) ∙ ap (λ us. lexemes_of (take i ts) ++ us) (sym content) ∙ sym p.0,
      sym (p.1 ∙ behind),
    )

pub lexemes_long : (ts : List Token) → length (lexemes_of ts) ≡ length ts
lexemes_long [] = refl
lexemes_long (t ∷ ts) = ap suc (lexemes_long ts)
