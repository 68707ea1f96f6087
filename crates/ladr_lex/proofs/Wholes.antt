-- Bytes that are one token.
use Rattle.std.proofs.Common.{◌≡◌, ℕ, Bool, true, false, List, [], ◌∷◌, length, Option, Some, None, inl, inr, ⊎_elim, refl, sym, ap, ◌∙◌, arith}
use Rattle.std.proofs.lemmas.Bool.{cases_Bool, cases_eq, eq-eqb, ne_eqb, or_left, or_right, or_cases}
use Rattle.std.proofs.lemmas.List.{take_all}
use Rattle.ladr_lex.specs.Cuts.{can_be, is_plain_symbol, is_quoted}
use Rattle.ladr_lex.specs.Lexed.{kind_beginning, length_behind, whole_kind}
use Rattle.ladr_lex.specs.Starts.{start_of}
use Rattle.ladr_lex.specs.declared.token.TokenKind.{TokenKind}
use Rattle.ladr_lex.specs.declared.token.TokenKind.TheVariants.{Open, Close, LeftSquare, RightSquare, Comma, Stop, Ordinary, Quoted, Special, Unreadable}
use Rattle.ladr_lex.proofs.Extents.{told, extent}

-- bytes of a kind have it
whole_is : (k : TokenKind) (text : List ℕ) → can_be (Some k) text ≡ true → whole_kind text ≡ Some k
whole_is k [] h = absurd (told (Some k) [] h)
whole_is k (b ∷ m) h = let t = told (Some k) (b ∷ m) h in rw (eq-eqb (length_behind b m) (length m) t.all) t.kind

-- bytes that have a kind are of it
is_whole : (k : TokenKind) (text : List ℕ) → whole_kind text ≡ Some k → can_be (Some k) text ≡ true
is_whole k [] h = cc
is_whole k (b ∷ m) h =
    elim (cases_eq (length_behind b m) (length m)) [
      | inl e ↦ (let same : kind_beginning b m ≡ Some k = rw (eq-eqb (length_behind b m) (length m) e) at h in
          ap (λ (o : Option TokenKind). can_be o (b ∷ m)) (sym same)
          ∙ ap (λ (l : List ℕ). can_be (kind_beginning b m) (b ∷ l)) (sym (take_all (length_behind b m) m (omega arith)))
          ∙ (extent (start_of b) b m refl).fits)
      | inr e ↦ absurd (let other : None ≡ Some k = rw (ne_eqb (length_behind b m) (length m) e) at h in cc)
    ]

abbrev pub is_symbol_kind : Option TokenKind → Bool
is_symbol_kind (Some Ordinary) = true
is_symbol_kind (Some Special) = true
is_symbol_kind _ = false

abbrev pub is_quoted_kind : Option TokenKind → Bool
is_quoted_kind (Some Quoted) = true
is_quoted_kind _ = false

pub symbol_by_kind : (text : List ℕ) → is_plain_symbol text ≡ is_symbol_kind (whole_kind text)
symbol_by_kind text = at (whole_kind text) refl
  where
    none : (o : Option TokenKind) → whole_kind text ≡ o → is_symbol_kind o ≡ false → is_plain_symbol text ≡ false
    none o e f =
        elim (cases_Bool (is_plain_symbol text)) [
          | inl y ↦ ⊎_elim (λ g. let k = sym e ∙ whole_is Ordinary text g in cc) (λ g. let k = sym e ∙ whole_is Special text g in cc) (or_cases _ _ y)
          | inr y ↦ y
        ]

    at : (o : Option TokenKind) → whole_kind text ≡ o → is_plain_symbol text ≡ is_symbol_kind o
    at (Some Ordinary) e = or_left _ _ (is_whole Ordinary text e)
    at (Some Special) e = or_right _ _ (is_whole Special text e)
    at None e = none None e refl
    at (Some Open) e = none (Some Open) e refl
    at (Some Close) e = none (Some Close) e refl
    at (Some LeftSquare) e = none (Some LeftSquare) e refl
    at (Some RightSquare) e = none (Some RightSquare) e refl
    at (Some Comma) e = none (Some Comma) e refl
    at (Some Stop) e = none (Some Stop) e refl
    at (Some Quoted) e = none (Some Quoted) e refl
    at (Some Unreadable) e = none (Some Unreadable) e refl

pub quoted_by_kind : (text : List ℕ) → is_quoted text ≡ is_quoted_kind (whole_kind text)
quoted_by_kind text =
    elim (cases_Bool (is_quoted text)) [
      | inl y ↦ y ∙ ap is_quoted_kind (sym (whole_is Quoted text y))
      | inr y ↦ y ∙ no (whole_kind text) refl y
    ]
  where
    no : (o : Option TokenKind) → whole_kind text ≡ o → is_quoted text ≡ false → false ≡ is_quoted_kind o
    no (Some Quoted) e f = absurd (let k = is_whole Quoted text e in cc)
    no None e f = refl
    no (Some Open) e f = refl
    no (Some Close) e f = refl
    no (Some LeftSquare) e f = refl
    no (Some RightSquare) e f = refl
    no (Some Comma) e f = refl
    no (Some Stop) e f = refl
    no (Some Ordinary) e f = refl
    no (Some Special) e f = refl
    no (Some Unreadable) e f = refl
