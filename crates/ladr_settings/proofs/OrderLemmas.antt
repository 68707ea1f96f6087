-- Names that are put into an order one after the other.
use Rattle.std.proofs.Common.{◌≡◌, ℕ, zero, suc, ◌+◌, ◌<◌, Bool, true, false, not, List, [], ◌∷◌, ◌++◌, length, take, drop, get_or, refl, sym, ap, ◌∙◌, subst, arith}
use Rattle.std.proofs.Math.Seq.{take-suc}
use Rattle.fol_core.proofs.NamesOnceLemmas.{twice, apart_more}
use Rattle.fol_core.specs.NamesOnce.{is_in, are_apart}

split : (xs : List (List ℕ)) (i : ℕ) (x : List ℕ) → i < length xs → x ≡ get_or xs i x → take i xs ++ x ∷ drop (suc i) xs ≡ xs
split [] i x less at = absurd (omega (arith, less))
split (y ∷ ys) zero x less at = ap (λ z. z ∷ ys) at
split (y ∷ ys) (suc i) x less at = ap (λ l. y ∷ l) (split ys i x (omega (arith, less)) at)

pub next_taken : (xs : List (List ℕ)) (i : ℕ) (x : List ℕ) → i < length xs → x ≡ get_or xs i x → take i xs ++ x ∷ [] ≡ take (i + 1) xs
next_taken xs i x less at = ap (λ y. take i xs ++ y ∷ []) at ∙ sym (take-suc xs i x less) ∙ ap (λ n. take n xs) (one_more i)
  where
    one_more : (i : ℕ) → suc i ≡ i + 1
    one_more i = omega arith

-- a name that is new keeps the names so far apart
pub next_new : (xs : List (List ℕ)) (i : ℕ) (x : List ℕ) → i < length xs → x ≡ get_or xs i x → are_apart (take i xs) ≡ true → is_in x (take i xs) ≡ false
    → are_apart (take (i + 1) xs) ≡ true
next_new xs i x less at apart new = subst (λ l. are_apart l ≡ true) (next_taken xs i x less at) (apart_more (take i xs) x apart new)

-- one that isn't shows that they are not
pub next_twice : (xs : List (List ℕ)) (i : ℕ) (x : List ℕ) → i < length xs → x ≡ get_or xs i x → is_in x (take i xs) ≡ true → are_apart xs ≡ false
next_twice xs i x less at there = sym (ap are_apart (split xs i x less at)) ∙ twice (take i xs) (drop (suc i) xs) x there

-- what `push` answers
pub not_new : (b is : Bool) → b ≡ not is → b ≡ false → is ≡ true
not_new b true e f = refl
not_new b false e f = cc

pub is_new : (b is : Bool) → b ≡ not is → b ≡ true → is ≡ false
is_new b true e f = cc
is_new b false e f = refl
