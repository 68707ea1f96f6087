-- Texts line by line.
use Rattle.std.proofs.Common.{◌≡◌, ◌⊎◌, inl, inr, ℕ, zero, suc, ◌+◌, ◌/◌, ◌%◌, ◌<◌, ◌≤◌, ◌==◌, not, Bool, true, false, if◌then◌else◌, List, [], ◌∷◌, ◌++◌, refl, sym, ap, ap₂, ◌∙◌, subst, append_assoc, arith}
use Rattle.std.proofs.Math.Nat.{mod-lt}
use Rattle.std.proofs.lemmas.Bool.{and_from, and_parts}
use Rattle.std.proofs.lemmas.Bool.Decides.{nat_tests}
use Rattle.std.proofs.lemmas.List.Folds.{list_all-append}
use Rattle.std.specs.Fmt.{decimal, digits, digits_onto, digit_glyph}
use Rattle.std.specs.List.{list_all}
use Rattle.std.specs.Prelude.{nat_lt}
use Rattle.ladr_output.specs.Standing.{AreWholeLines, HaveOneFront}
use Rattle.ladr_output.specs.Telling.{as_line}

pub heads : (x y : ℕ) (xs ys : List ℕ) → x ∷ xs ≡ y ∷ ys → (x ≡ y) × (xs ≡ ys)
heads x y xs ys e = (cc, cc)

-- a text within a line
abbrev pub is_unbroken : List ℕ → Bool
is_unbroken text = list_all (λ b. not (b == 10)) text

pub unbroken_append : (xs ys : List ℕ) → is_unbroken xs ≡ true → is_unbroken ys ≡ true → is_unbroken (xs ++ ys) ≡ true
unbroken_append xs ys h k = list_all-append (λ b. not (b == 10)) xs ys ∙ and_from (is_unbroken xs) (is_unbroken ys) h k

-- decimal digits
abbrev pub AreGlyphs : List ℕ → Type 0
AreGlyphs [] = Unit {0}
AreGlyphs (b ∷ bs) = (48 ≤ b) × (b ≤ 57) × AreGlyphs bs

glyph : (d : ℕ) → d < 10 → digit_glyph false d ≡ 48 + d
glyph d h = by (nat_lt d 10) refl
  where
    by : (b : Bool) → nat_lt d 10 ≡ b → (if b then 48 + d else 87 + d) ≡ 48 + d
    by true e = refl
    by false e = grind (arith, nat_tests)

onto_glyphs : (k n : ℕ) (acc : List ℕ) → AreGlyphs acc → AreGlyphs (digits_onto k 10 false n acc)
onto_glyphs zero n acc h = h
onto_glyphs (suc k) n acc h = by (n / 10 == 0) (onto_glyphs k (n / 10) (last ∷ acc) more)
  where
    small : n % 10 < 10
    small = mod-lt n (omega arith)

    last : ℕ
    last = digit_glyph false (n % 10)

    more : AreGlyphs (last ∷ acc)
    more = (omega (arith, glyph (n % 10) small), omega (arith, glyph (n % 10) small, small), h)

    by : (b : Bool) → AreGlyphs (digits_onto k 10 false (n / 10) (last ∷ acc)) → AreGlyphs (if b then last ∷ acc else digits_onto k 10 false (n / 10) (last ∷ acc))
    by true others = more
    by false others = others

pub decimal_glyphs : (n : ℕ) → AreGlyphs (decimal n)
unfolding digits
decimal_glyphs n = onto_glyphs 64 n [] tt

glyphs_unbroken : (ds : List ℕ) → AreGlyphs ds → is_unbroken ds ≡ true
glyphs_unbroken [] h = refl
glyphs_unbroken (d ∷ ds) h = and_from (not (d == 10)) (is_unbroken ds) (grind (arith, nat_tests, h.0)) (glyphs_unbroken ds h.2)

pub decimal_unbroken : (n : ℕ) → is_unbroken (decimal n) ≡ true
decimal_unbroken n = glyphs_unbroken (decimal n) (decimal_glyphs n)

-- digits end where a lesser byte stands
pub glyphs_end : (xs ys r s : List ℕ) (c d : ℕ) → AreGlyphs xs → AreGlyphs ys → c < 48 → d < 48 → xs ++ c ∷ r ≡ ys ++ d ∷ s → (xs ≡ ys) × (c ∷ r ≡ d ∷ s)
glyphs_end [] [] r s c d h k lc ld e = (refl, e)
glyphs_end [] (y ∷ ys) r s c d h k lc ld e =
    let first = (heads c y r (ys ++ d ∷ s) e).0 in
    absurd (omega (arith, k.0, lc, first))
glyphs_end (x ∷ xs) [] r s c d h k lc ld e =
    let first = (heads x d (xs ++ c ∷ r) s e).0 in
    absurd (omega (arith, h.0, ld, first))
glyphs_end (x ∷ xs) (y ∷ ys) r s c d h k lc ld e =
    let parts = heads x y (xs ++ c ∷ r) (ys ++ d ∷ s) e in
    let rest = glyphs_end xs ys r s c d h.2 k.2 lc ld parts.1 in
    (ap₂ (λ (z : ℕ) (zs : List ℕ). z ∷ zs) parts.0 rest.0, rest.1)

-- whole lines, one behind the other
pub lines_append : (a b : List ℕ) → AreWholeLines a → AreWholeLines b → AreWholeLines (a ++ b)
lines_append [] b h k = k
lines_append (x ∷ []) [] h k = h
lines_append (x ∷ []) (c ∷ b) h k = k
lines_append (x ∷ y ∷ a) b h k = lines_append (y ∷ a) b h k

pub line_ends : (l : List ℕ) → AreWholeLines (as_line l)
line_ends [] = refl
line_ends (x ∷ []) = refl
line_ends (x ∷ y ∷ l) = line_ends (y ∷ l)

lines_rest : (b : ℕ) (bs : List ℕ) → AreWholeLines (b ∷ bs) → AreWholeLines bs
lines_rest b [] h = tt
lines_rest b (c ∷ cs) h = h

-- where a line ends is told by its text: whole lines before a place are none, or begin with it
pub line_off : (l rest before tail : List ℕ) → is_unbroken l ≡ true → AreWholeLines before → l ++ 10 ∷ rest ≡ before ++ tail
    → (before ≡ []) ⊎ ((b : List ℕ) × AreWholeLines b × (before ≡ l ++ 10 ∷ b) × (rest ≡ b ++ tail))
line_off l rest [] tail u h e = inl refl
line_off [] rest (x ∷ bs) tail u h e =
    let parts = heads 10 x rest (bs ++ tail) e in
    inr (bs, lines_rest x bs h, ap (λ (y : ℕ). y ∷ bs) (sym parts.0), parts.1)
line_off (c ∷ cs) rest (x ∷ bs) tail u h e =
    let parts = heads c x (cs ++ 10 ∷ rest) (bs ++ tail) e in
    let within = and_parts (not (c == 10)) (is_unbroken cs) u in
    elim (line_off cs rest bs tail within.1 (lines_rest x bs h) parts.1) [
      | inl none ↦ (
          let last : x ≡ 10 = subst (λ (l : List ℕ). AreWholeLines (x ∷ l)) none h in
          let first = within.0 in
          let same = parts.0 in
          absurd (grind (arith, nat_tests)))
      | inr r ↦ inr (r.0, r.1, ap₂ (λ (y : ℕ) (ys : List ℕ). y ∷ ys) (sym parts.0) r.2, r.3)
    ]

-- The text x stands before the rest. Whole lines before a place are none; or the place is inside the text; or the whole text is among them.
abbrev pub IsPassed : (List ℕ → Type 0) → List ℕ → Type 0
IsPassed Inside x = (rest before tail : List ℕ) → AreWholeLines before → x ++ rest ≡ before ++ tail → (before ≡ []) ⊎ (Inside tail ⊎ ((b : List ℕ) × AreWholeLines b × (before ≡ x ++ b) × (rest ≡ b ++ tail)))

pub passed_line : (Inside : List ℕ → Type 0) (l : List ℕ) → is_unbroken l ≡ true → IsPassed Inside (as_line l)
passed_line Inside l u rest before tail h e =
    elim (line_off l rest before tail u h (sym (append_assoc l (10 ∷ []) rest) ∙ e)) [
      | inl none ↦ inl none
      | inr r ↦ inr (inr (r.0, r.1, r.2 ∙ sym (append_assoc l (10 ∷ []) r.0), r.3))
    ]

pub passed_both : (Inside : List ℕ → Type 0) (x y : List ℕ) → IsPassed Inside x → IsPassed Inside y → ((rest : List ℕ) → Inside (y ++ rest)) → IsPassed Inside (x ++ y)
passed_both Inside x y first second opens rest before tail h e =
    elim (first (y ++ rest) before tail h (sym (append_assoc x y rest) ∙ e)) [
      | inl none ↦ inl none
      | inr (inl inside) ↦ inr (inl inside)
      | inr (inr r) ↦ behind r
    ]
  where
    behind : (b : List ℕ) × AreWholeLines b × (before ≡ x ++ b) × (y ++ rest ≡ b ++ tail) → (before ≡ []) ⊎ (Inside tail ⊎ ((b : List ℕ) × AreWholeLines b × (before ≡ (x ++ y) ++ b) × (rest ≡ b ++ tail)))
    behind r = elim (second rest r.0 tail r.1 r.3) [
      | inl none ↦ inr (inl (subst Inside (r.3 ∙ ap (λ (b : List ℕ). b ++ tail) none) (opens rest)))
      | inr (inl inside) ↦ inr (inl inside)
      | inr (inr s) ↦ inr (inr (s.0, s.1, r.2 ∙ ap (λ (b : List ℕ). x ++ b) s.2 ∙ sym (append_assoc x y s.0), s.3))
    ]

-- two texts that go on to be the same
pub one_front : (a b r s : List ℕ) → a ++ r ≡ b ++ s → HaveOneFront a b
one_front [] b r s e = (b, inr refl)
one_front (x ∷ a) [] r s e = (x ∷ a, inl refl)
one_front (x ∷ a) (y ∷ b) r s e =
    let parts = heads x y (a ++ r) (b ++ s) e in
    let more = one_front a b r s parts.1 in (
      more.0,
      elim more.1 [
        | inl f ↦ inl (ap₂ (λ (z : ℕ) (zs : List ℕ). z ∷ zs) parts.0 f)
        | inr f ↦ inr (ap₂ (λ (z : ℕ) (zs : List ℕ). z ∷ zs) (sym parts.0) f)
      ],
    )
