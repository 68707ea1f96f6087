-- Numbers of lists of digits.
use Rattle.std.proofs.Common.{◌≡◌, ℕ, zero, suc, ◌+◌, ◌*◌, ◌-◌, ◌/◌, ◌%◌, ◌<◌, ◌≤◌, List, [], ◌∷◌, length, set, get_or, drop, inl, inr, refl, sym, ap, ap₂, ◌∙◌, arith}
use Rattle.std.proofs.lemmas.Bool.{cases_lt}
use Rattle.std.proofs.lemmas.List.{length-set, drop_all}
use Rattle.std.proofs.Math.Nat.{mul-le-mul_right, div-add-mod, mod-lt}
use Rattle.model_tables.specs.Digits.{AreDigits, digits_count, digits_number}

-- a number of digits is below the count
pub number_below : (bs ds : List ℕ) → AreDigits bs ds → digits_number bs ds < digits_count bs
number_below [] [] h = omega arith
number_below [] (d ∷ ds) h = absurd h
number_below (b ∷ bs) [] h = absurd h
number_below (b ∷ bs) (d ∷ ds) h =
    let more : suc d * digits_count bs ≤ b * digits_count bs = mul-le-mul_right (digits_count bs) h.0 in
    omega (arith, number_below bs ds h.1)

first_same : (c d e r s : ℕ) → r < c → s < c → d * c + r ≡ e * c + s → (d ≡ e) × (r ≡ s)
first_same c d e r s rc sc h = elim (cases_lt d e) [
  | inl lt ↦ let more : suc d * c ≤ e * c = mul-le-mul_right c lt in absurd (omega arith)
  | inr le ↦ elim (cases_lt e d) [
    | inl lt ↦ let more : suc e * c ≤ d * c = mul-le-mul_right c lt in absurd (omega arith)
    | inr ge ↦ let same : d ≡ e = omega arith in (same, omega (arith, ap (λ x. x * c) same))
  ]
]

-- digits that write the same number are the same
pub number_same : (bs ds es : List ℕ) → AreDigits bs ds → AreDigits bs es → digits_number bs ds ≡ digits_number bs es → ds ≡ es
number_same [] [] [] h k e = refl
number_same [] [] (x ∷ es) h k e = absurd k
number_same [] (d ∷ ds) es h k e = absurd h
number_same (b ∷ bs) [] es h k e = absurd h
number_same (b ∷ bs) (d ∷ ds) [] h k e = absurd k
number_same (b ∷ bs) (d ∷ ds) (x ∷ es) h k e =
    let parts = first_same (digits_count bs) d x (digits_number bs ds) (digits_number bs es) (number_below bs ds h.1) (number_below bs es k.1) e in
    ap₂ (λ y ys. y ∷ ys) parts.0 (number_same bs ds es h.1 k.1 parts.1)

-- each number below the count is that of some digits
pub digits_at : (bs : List ℕ) (k : ℕ) → k < digits_count bs → (ds : List ℕ) × (AreDigits bs ds × (digits_number bs ds ≡ k))
digits_at [] k h = ([], (tt, omega arith))
digits_at (b ∷ bs) k h =
    let some : 0 < digits_count bs = positive (digits_count bs) h in
    let back : digits_count bs * (k / digits_count bs) + k % digits_count bs ≡ k = div-add-mod k (digits_count bs) in
    let rest = digits_at bs (k % digits_count bs) (mod-lt k some) in
    (k / digits_count bs ∷ rest.0, ((lower (k / digits_count bs) (k % digits_count bs) (digits_count bs) back h, rest.1.0), omega (arith, rest.1.1, back)))
  where
    positive : (c : ℕ) → k < b * c → 0 < c
    positive zero l = absurd (omega arith)
    positive (suc c) l = omega arith

    lower : (d r c : ℕ) → c * d + r ≡ k → k < b * c → d < b
    lower d r c e l = elim (cases_lt d b) [
      | inl lt ↦ lt
      | inr ge ↦ let more : b * c ≤ d * c = mul-le-mul_right c ge in absurd (omega arith)
    ]

-- what a changed digit changes
pub number_set : (bs ds : List ℕ) (i v : ℕ) → AreDigits bs ds → i < length ds
    → digits_number bs (set ds i v) + get_or ds i 0 * digits_count (drop (suc i) bs) ≡ digits_number bs ds + v * digits_count (drop (suc i) bs)
number_set [] [] i v h l = absurd (omega arith)
number_set [] (d ∷ ds) i v h l = absurd h
number_set (b ∷ bs) [] i v h l = absurd h
number_set (b ∷ bs) (d ∷ ds) zero v h l = omega arith
number_set (b ∷ bs) (d ∷ ds) (suc i) v h l = omega (arith, number_set bs ds i v h.1 (omega arith))

-- a digit below its bound may be changed
pub set_digit : (bs ds : List ℕ) (i v : ℕ) → AreDigits bs ds → v < get_or bs i 0 → AreDigits bs (set ds i v)
set_digit [] [] i v h l = tt
set_digit [] (d ∷ ds) i v h l = absurd h
set_digit (b ∷ bs) [] i v h l = absurd h
set_digit (b ∷ bs) (d ∷ ds) zero v h l = (l, h.1)
set_digit (b ∷ bs) (d ∷ ds) (suc i) v h l = (h.0, set_digit bs ds i v h.1 l)

pub digit_below : (bs ds : List ℕ) (i : ℕ) → AreDigits bs ds → i < length ds → get_or ds i 0 < get_or bs i 0
digit_below [] [] i h l = absurd (omega arith)
digit_below [] (d ∷ ds) i h l = absurd h
digit_below (b ∷ bs) [] i h l = absurd h
digit_below (b ∷ bs) (d ∷ ds) zero h l = h.0
digit_below (b ∷ bs) (d ∷ ds) (suc i) h l = digit_below bs ds i h.1 (omega arith)

pub digits_many : (bs ds : List ℕ) → AreDigits bs ds → length ds ≡ length bs
digits_many [] [] h = refl
digits_many [] (d ∷ ds) h = absurd h
digits_many (b ∷ bs) [] h = absurd h
digits_many (b ∷ bs) (d ∷ ds) h = ap suc (digits_many bs ds h.1)

-- the digit at i counts as many as its bound allows of what it counts
pub count_drop : (bs : List ℕ) (i : ℕ) → i < length bs → digits_count (drop i bs) ≡ get_or bs i 0 * digits_count (drop (suc i) bs)
count_drop [] i l = absurd (omega arith)
count_drop (b ∷ bs) zero l = refl
count_drop (b ∷ bs) (suc i) l = count_drop bs i (omega arith)

-- one more at i, where what is behind it has run through
pub step_up : (bs ds : List ℕ) (i n : ℕ) → AreDigits bs ds → i < length ds → digits_number bs ds + digits_count (drop (suc i) bs) ≡ n → digits_number bs (set ds i (get_or ds i 0 + 1)) ≡ n
step_up bs ds i n h l e = omega (arith, number_set bs ds i (get_or ds i 0 + 1) h l)

-- 0 at i, where it and what is behind it have run through
pub step_over : (bs ds : List ℕ) (i n : ℕ) → AreDigits bs ds → i < length ds → get_or ds i 0 + 1 ≡ get_or bs i 0
    → digits_number bs ds + digits_count (drop (suc i) bs) ≡ n → digits_number bs (set ds i 0) + digits_count (drop i bs) ≡ n
step_over bs ds i n h l top e =
    let many : i < length bs = omega (arith, digits_many bs ds h) in
    let whole : digits_count (drop i bs) ≡ (get_or ds i 0 + 1) * digits_count (drop (suc i) bs) = count_drop bs i many ∙ ap (λ b. b * digits_count (drop (suc i) bs)) (sym top) in
    omega (arith, number_set bs ds i 0 h l, whole)

-- the digits from `at` on have run through and are 0 again; one more is to be carried to those before
pub record Carries (bs before now : List ℕ) (at : ℕ) : Type 0 where
  pub within : at ≤ length now
  pub digits : AreDigits bs now
  pub carried : digits_number bs now + digits_count (drop at bs) ≡ digits_number bs before + 1

pub carries_none : (bs ds : List ℕ) → AreDigits bs ds → Carries bs ds ds (length ds)
carries_none bs ds h = record {
  within = omega arith;
  digits = h;
  carried = let all : drop (length ds) bs ≡ [] = drop_all (length ds) bs (omega (arith, digits_many bs ds h)) in ap (λ (xs : List ℕ). digits_number bs ds + digits_count xs) all;
}

module _ (bs before now : List ℕ) (at : ℕ) (c : Carries bs before now at) (more : 0 < at) where
  inside : at - 1 < length now
  inside = omega (arith, c.within)

  pub digit : get_or now (at - 1) 0 < get_or bs (at - 1) 0
  digit = digit_below bs now (at - 1) c.digits inside

  carried_there : digits_number bs now + digits_count (drop (suc (at - 1)) bs) ≡ digits_number bs before + 1
  carried_there = let same : suc (at - 1) ≡ at = omega arith in rw same c.carried

  -- one more there
  pub carries_up : digits_number bs (set now (at - 1) (get_or now (at - 1) 0 + 1)) ≡ digits_number bs before + 1
  carries_up = step_up bs now (at - 1) (digits_number bs before + 1) c.digits inside carried_there

  -- 0 there, where it is the greatest
  pub carries_over : get_or bs (at - 1) 0 ≤ get_or now (at - 1) 0 + 1 → Carries bs before (set now (at - 1) 0) (at - 1)
  carries_over over = record {
    within = omega (arith, length-set now (at - 1) 0, c.within);
    digits = set_digit bs now (at - 1) 0 c.digits (omega (arith, digit));
    carried = step_over bs now (at - 1) (digits_number bs before + 1) c.digits inside (omega (arith, digit)) carried_there;
  }

-- where it is to be carried beyond the first, all have run through
pub carries_all : (bs before now : List ℕ) (at : ℕ) → Carries bs before now at → at ≤ 0 → AreDigits bs before → (digits_count bs ≡ digits_number bs before + 1) × (digits_number bs now ≡ 0)
carries_all bs before now zero c l d = let below = number_below bs before d in (omega (arith, c.carried), omega (arith, c.carried))
carries_all bs before now (suc at) c l d = absurd (omega arith)
