-- Where a quoted symbol ends.
use Rattle.std.proofs.Common.{◌≡◌, ℕ, suc, ◌≤◌, true, false, List, [], ◌∷◌, ◌++◌, length, take, inl, inr, refl, sym, ap, ◌∙◌, arith}
use Rattle.std.specs.List.{prefix_len}
use Rattle.std.proofs.Math.Numerals.{one-add}
use Rattle.std.proofs.lemmas.Bool.{cases_Bool}
use Rattle.std.proofs.lemmas.Bool.Decides.{nat_tests}
use Rattle.ladr_lex.specs.Bytes.{is_quote, is_quotable}
use Rattle.ladr_lex.specs.Cuts.{ends_quoted}
use Rattle.ladr_lex.specs.Lexed.{quote_ends}

-- the bytes before the quote
abbrev inside : List ℕ → ℕ
inside bs = prefix_len is_quotable bs

-- one byte more in front
data Steps (b : ℕ) (bs : List ℕ) : Type 0 where
  on : is_quotable b ≡ true → inside (b ∷ bs) ≡ suc (inside bs) → quote_ends (b ∷ bs) ≡ quote_ends bs → Steps b bs
  off : is_quotable b ≡ false → inside (b ∷ bs) ≡ 0 → quote_ends (b ∷ bs) ≡ is_quote b → Steps b bs

steps : (b : ℕ) (bs : List ℕ) → Steps b bs
steps b bs =
    elim (cases_Bool (is_quotable b)) [
      | inl y ↦ (let e : inside (b ∷ bs) ≡ suc (inside bs) = rw (y, one-add) refl in on y e (rw e refl))
      | inr y ↦ (let e : inside (b ∷ bs) ≡ 0 = rw y refl in off y e (rw e (grind (arith, nat_tests))))
    ]

-- bytes that end with the quote are all up to it
pub record Whole (m : List ℕ) : Type 0 where
  pub closed : quote_ends m ≡ true
  pub all : suc (inside m) ≡ length m

whole_at : (b : ℕ) (m : List ℕ) → Steps b m → (ends_quoted m ≡ true → Whole m) → ends_quoted (b ∷ m) ≡ true → Whole (b ∷ m)
whole_at b [] (on y e c) rest h = absurd (grind (arith, nat_tests))
whole_at b [] (off y e c) rest h = record { closed = c ∙ h; all = omega arith }
whole_at b (d ∷ m) (on y e c) rest h = let w = rest (grind arith) in record { closed = c ∙ w.closed; all = omega (arith, w.all) }
whole_at b (d ∷ m) (off y e c) rest h = absurd (grind arith)

pub whole : (m : List ℕ) → ends_quoted m ≡ true → Whole m
whole [] h = cc
whole (b ∷ m) h = whole_at b m (steps b m) (whole m) h

-- up to the quote they end with it
front_more : (b n : ℕ) (bs : List ℕ) → is_quotable b ≡ true → ends_quoted (take n bs) ≡ true → ends_quoted (b ∷ take n bs) ≡ true
front_more b n bs y h = more (take n bs) h
  where
    more : (m : List ℕ) → ends_quoted m ≡ true → ends_quoted (b ∷ m) ≡ true
    more [] e = cc
    more (c ∷ cs) e = grind arith

front_at : (b : ℕ) (bs : List ℕ) → Steps b bs → (quote_ends bs ≡ true → ends_quoted (take (suc (inside bs)) bs) ≡ true) → quote_ends (b ∷ bs) ≡ true → ends_quoted (take (suc (inside (b ∷ bs))) (b ∷ bs)) ≡ true
front_at b bs (on y e c) rest h = ap (λ (n : ℕ). ends_quoted (take (suc n) (b ∷ bs))) e ∙ front_more b (suc (inside bs)) bs y (rest (sym c ∙ h))
front_at b bs (off y e c) rest h = ap (λ (n : ℕ). ends_quoted (take (suc n) (b ∷ bs))) e ∙ (sym c ∙ h)

pub quoted_front : (bs : List ℕ) → quote_ends bs ≡ true → ends_quoted (take (suc (inside bs)) bs) ≡ true
quoted_front [] h = cc
quoted_front (b ∷ bs) h = front_at b bs (steps b bs) (quoted_front bs) h

within_at : (b : ℕ) (bs : List ℕ) → Steps b bs → (quote_ends bs ≡ true → suc (inside bs) ≤ length bs) → quote_ends (b ∷ bs) ≡ true → suc (inside (b ∷ bs)) ≤ length (b ∷ bs)
within_at b bs (on y e c) rest h = omega (arith, rest (sym c ∙ h))
within_at b bs (off y e c) rest h = omega arith

pub quoted_within : (bs : List ℕ) → quote_ends bs ≡ true → suc (inside bs) ≤ length bs
quoted_within [] h = cc
quoted_within (b ∷ bs) h = within_at b bs (steps b bs) (quoted_within bs) h

-- more bytes behind it change nothing
pub record Stays (m r : List ℕ) : Type 0 where
  pub closed : quote_ends (m ++ r) ≡ true
  pub same : inside (m ++ r) ≡ inside m

stays_at : (b : ℕ) (m r : List ℕ) → Steps b m → Steps b (m ++ r) → (quote_ends m ≡ true → Stays m r) → quote_ends (b ∷ m) ≡ true → Stays (b ∷ m) r
stays_at b m r (on y e c) (on z f d) rest h = let s = rest (sym c ∙ h) in record { closed = d ∙ s.closed; same = f ∙ ap suc s.same ∙ sym e }
stays_at b m r (on y e c) (off z f d) rest h = cc
stays_at b m r (off y e c) (on z f d) rest h = cc
stays_at b m r (off y e c) (off z f d) rest h = record { closed = d ∙ (sym c ∙ h); same = f ∙ sym e }

pub quoted_stays : (m r : List ℕ) → quote_ends m ≡ true → Stays m r
quoted_stays [] r h = cc
quoted_stays (b ∷ m) r h = stays_at b m r (steps b m) (steps b (m ++ r)) (quoted_stays m r) h
