-- The least number above the variables of terms.
use Rattle.std.proofs.Common.{◌≡◌, ◌<◌, inl, inr, ℕ, suc, Bool, true, false, ◌==◌, if◌then◌else◌, IsTrue, max, List, [], ◌∷◌, ◌++◌, refl, arith}
use Rattle.std.proofs.lemmas.Bool.{false≢true, or_cases, eqb-true}
use Rattle.answers.specs.AnswerTrees.{above_all}
use Rattle.fol_core.specs.Free.{is_in, noted, joined}

below : (xs : List ℕ) (x : ℕ) → IsTrue (is_in x xs) → x < above_all xs
below [] x h = absurd (false≢true h)
below (y ∷ ys) x h = elim (or_cases (x == y) (is_in x ys) h) [
  | inl here ↦ let e : x ≡ y = eqb-true x y here in omega (arith, e)
  | inr there ↦ let k = below ys x there in omega (arith, k)
]

pushed : (xs : List ℕ) (y : ℕ) → above_all (xs ++ y ∷ []) ≡ max (above_all xs) (suc y)
pushed [] y = omega arith
pushed (x ∷ xs) y = let e = pushed xs y in omega (arith, e)

above_noted : (xs : List ℕ) (y : ℕ) → above_all (noted xs y) ≡ max (above_all xs) (suc y)
above_noted xs y = by (is_in y xs) refl
  where
    by : (b : Bool) → is_in y xs ≡ b → above_all (if b then xs else xs ++ y ∷ []) ≡ max (above_all xs) (suc y)
    by true e = let h = below xs y e in omega (arith, h)
    by false e = pushed xs y

pub above_joined : (xs ys : List ℕ) → above_all (joined xs ys) ≡ max (above_all xs) (above_all ys)
above_joined xs [] = omega arith
above_joined xs (y ∷ ys) = let e = above_joined (noted xs y) ys in let k = above_noted xs y in omega (arith, e, k)
