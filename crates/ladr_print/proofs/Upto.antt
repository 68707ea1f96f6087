-- The numbers below one, in their order.
use Rattle.std.proofs.Common.{◌≡◌, ℕ, zero, suc, ◌<◌, ◌≤◌, Bool, true, false, List, [], ◌∷◌, ◌++◌, length, Option, Some, None, inl, inr, refl, sym, ap, ◌∙◌, arith}
use Rattle.std.specs.Prelude.{◌==◌, ◌||◌, is_some, unwrap_or}
use Rattle.std.specs.List.{list_any}
use Rattle.std.proofs.lemmas.Bool.{cases_eq, ne_eqb, eq-eqb, both_ways}
use Rattle.std.proofs.lemmas.Bool.Decides.{nat_tests}
use Rattle.std.proofs.lemmas.List.{length-append}
use Rattle.fol_core.specs.Free.{is_in, noted}
use Rattle.fol_core.specs.Renumbered.{place_in}
use Rattle.fol_core.specs.SymbolTable.{first_place}
use Rattle.fol_core.proofs.Places.{first_place-any, first_place-append, first_place-push}

abbrev pub upto : ℕ → List ℕ
upto zero = []
upto (suc n) = upto n ++ n ∷ []

pub upto_length : (n : ℕ) → length (upto n) ≡ n
upto_length zero = refl
upto_length (suc n) = length-append (upto n) (n ∷ []) ∙ omega (arith, upto_length n)

or_false : (b : Bool) → (b || false) ≡ (false || b)
or_false true = refl
or_false false = refl

or_more : (b : Bool) (p q r : Bool) → p ≡ (q || r) → (b || p) ≡ ((b || q) || r)
or_more true p q r e = refl
or_more false p q r e = e

in_last : (x y : ℕ) (xs : List ℕ) → is_in x (xs ++ y ∷ []) ≡ (is_in x xs || x == y)
in_last x y [] = or_false (x == y)
in_last x y (z ∷ xs) = or_more (x == z) (is_in x (xs ++ y ∷ [])) (is_in x xs) (x == y) (in_last x y xs)

pub not_in : (n k : ℕ) → n ≤ k → is_in k (upto n) ≡ false
not_in zero k h = refl
not_in (suc n) k h = in_last k n (upto n) ∙ rw (not_in n k (omega (arith, h)), ne_eqb k n (λ e. omega (arith, h, e))) refl

pub is_below : (n k : ℕ) → k < n → is_in k (upto n) ≡ true
is_below zero k h = absurd (omega arith)
is_below (suc n) k h =
    elim (cases_eq k n) [
      | inl e ↦ in_last k n (upto n) ∙ rw (eq-eqb k n e) (with_true (is_in k (upto n)))
      | inr d ↦ in_last k n (upto n) ∙ rw (is_below n k (grind (arith, nat_tests))) refl
    ]
  where
    with_true : (b : Bool) → (b || true) ≡ true
    with_true true = refl
    with_true false = refl

pub noted_old : (n k : ℕ) → k < n → noted (upto n) k ≡ upto n
noted_old n k h = rw (is_below n k h) refl

pub noted_new : (n : ℕ) → noted (upto n) n ≡ upto (suc n)
noted_new n = rw (not_in n n (omega arith)) refl

-- each stands at its own place
nowhere : (test : ℕ → Bool) (xs : List ℕ) → list_any test xs ≡ false → first_place test xs ≡ None
nowhere test xs h = by (first_place test xs) refl
  where
    by : (o : Option ℕ) → first_place test xs ≡ o → o ≡ None
    by None e = refl
    by (Some m) e = absurd (both_ways (list_any test xs) h (sym (first_place-any test xs) ∙ ap is_some e))

at_place : (n k : ℕ) → k < n → first_place (λ y. k == y) (upto n) ≡ Some k
at_place zero k h = absurd (omega arith)
at_place (suc n) k h =
    elim (cases_eq k n) [
      | inl e ↦ first_place-push (λ y. k == y) (upto n) n (nowhere (λ y. k == y) (upto n) (not_in n k (omega (arith, e)))) (eq-eqb k n e) ∙ ap Some (omega (arith, e, upto_length n))
      | inr d ↦ first_place-append (λ y. k == y) (upto n) (n ∷ []) k (at_place n k (grind (arith, nat_tests)))
    ]

pub own_place : (n k : ℕ) → k < n → place_in (upto n) k ≡ k
own_place n k h = ap (λ (o : Option ℕ). unwrap_or o 0) (at_place n k h)
