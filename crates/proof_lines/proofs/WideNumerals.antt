-- The decimal digits of a number with at most 64 of them are a numeral.
use Rattle.std.proofs.Common.{◌≡◌, ℕ, zero, suc, ◌+◌, ◌/◌, ◌%◌, ◌^◌, ◌<◌, true, List, [], ◌∷◌, ◌++◌, length, refl, ap, ◌∙◌, subst, inl, inr, arith}
use Rattle.std.specs.Prelude.{not, ◌==◌, ◌||◌, ◌&&◌}
use Rattle.std.specs.List.{list_all}
use Rattle.std.specs.Char.{is_ascii_digit}
use Rattle.std.specs.Fmt.{decimal}
use Rattle.std.proofs.Math.Nat.{mod-lt}
use Rattle.std.proofs.lemmas.Bool.{and_from, or_left, cases_lt}
use Rattle.std.proofs.lemmas.Bool.Decides.{nat_tests}
use Rattle.std.proofs.lemmas.List.Folds.{list_all-append}
use Rattle.std.proofs.lemmas.Fmt.{decimal_digit, decimal_step_wide}
use Rattle.ladr_lex.specs.Numeral.{is_numeral}

-- digits of which the first isn't 0
record ArePositive (ds : List ℕ) : Type 0 where
  first : ℕ
  others : List ℕ
  split : ds ≡ first ∷ others
  above : 48 < first
  digits : list_all is_ascii_digit ds ≡ true

digit : (d : ℕ) → d < 10 → is_ascii_digit (48 + d) ≡ true
digit d h = grind (arith, nat_tests)

one : (n : ℕ) → 0 < n → n < 10 → ArePositive (decimal n)
one n h k = rw (decimal_digit n k) (record { first = 48 + n; others = []; split = refl; above = omega (arith, h); digits = and_from (is_ascii_digit (48 + n)) true (digit n k) refl })

more : (ds : List ℕ) (d : ℕ) → d < 10 → ArePositive ds → ArePositive (ds ++ (48 + d) ∷ [])
more ds d h p = record {
  first = p.first;
  others = p.others ++ (48 + d) ∷ [];
  split = ap (λ (xs : List ℕ). xs ++ (48 + d) ∷ []) p.split;
  above = p.above;
  digits = list_all-append is_ascii_digit ds ((48 + d) ∷ []) ∙ and_from (list_all is_ascii_digit ds) (is_ascii_digit (48 + d) && true) p.digits (and_from (is_ascii_digit (48 + d)) true (digit d h) refl);
}

positive : (most n : ℕ) → n < most → 0 < n → n < 10 ^ 64 → ArePositive (decimal n)
positive zero n m h k = absurd (omega (arith, m))
positive (suc most) n m h k =
    elim (cases_lt n 10) [
      | inl small ↦ one n h small
      | inr great ↦ rw (decimal_step_wide n great k) (more (decimal (n / 10)) (n % 10) (mod-lt n (omega arith)) (positive most (n / 10) (omega (arith, great, m)) (omega (arith, great)) (omega (arith, k))))
    ]

numeral : (ds : List ℕ) → ArePositive ds → is_numeral ds ≡ true
numeral ds p =
    let whole : list_all is_ascii_digit (p.first ∷ p.others) ≡ true = subst (λ (xs : List ℕ). list_all is_ascii_digit xs ≡ true) p.split p.digits in
    let above : (not (p.first == 48)) ≡ true = (let k = p.above in grind (arith, nat_tests)) in
    rw p.split (and_from (list_all is_ascii_digit (p.first ∷ p.others)) (not (p.first == 48) || length p.others == 0) whole (or_left (not (p.first == 48)) (length p.others == 0) above))

pub numeral_wide : (n : ℕ) → n < 10 ^ 64 → is_numeral (decimal n) ≡ true
numeral_wide zero h = rw (decimal_digit 0 (omega arith)) refl
numeral_wide (suc n) h = numeral (decimal (suc n)) (positive (suc (suc n)) (suc n) (omega arith) (omega arith) h)

-- they are digits
pub digits_wide : (n : ℕ) → n < 10 ^ 64 → list_all is_ascii_digit (decimal n) ≡ true
digits_wide zero h = rw (decimal_digit 0 (omega arith)) refl
digits_wide (suc n) h = (positive (suc (suc n)) (suc n) (omega arith) (omega arith) h).digits
