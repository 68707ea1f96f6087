-- Names in pairs, and their values at two places.
use Rattle.std.proofs.Common.{◌≡◌, ℕ, zero, suc, ◌<◌, List, [], ◌∷◌, map, length, arith}
use Rattle.std.specs.Prelude.{slice_index}
use Rattle.std.specs.List.{AllByRecursion}
use Rattle.fol_core.specs.RawTree.{RawTree}
use Rattle.ladr_distinct.specs.Different.{AreDifferent}
use Rattle.ladr_distinct.specs.Formula.{differ, all_differ}
use Rattle.ladr_distinct.proofs.Halves.{all_both, all_first, all_second}

-- what holds of each name beside others
pub mapped : {X Y : Type 0} (P : Y → Type 0) (f : X → Y) (xs : List X) → AllByRecursion (λ x. P (f x)) xs → AllByRecursion P (map f xs)
mapped P f [] h = tt
mapped P f (x ∷ xs) h = (h.0, mapped P f xs h.1)

pub unmapped : {X Y : Type 0} (P : Y → Type 0) (f : X → Y) (xs : List X) → AllByRecursion P (map f xs) → AllByRecursion (λ x. P (f x)) xs
unmapped P f [] h = tt
unmapped P f (x ∷ xs) h = (h.0, unmapped P f xs h.1)

-- what holds of each pair of names that are among some
pub each_pair : (Q : List ℕ → Type 0) (P : RawTree → Type 0) → ((s u : List ℕ) → Q s → Q u → P (differ s u)) → (ns : List (List ℕ)) → AllByRecursion Q ns → AllByRecursion P (all_differ ns)
each_pair Q P all [] h = tt
each_pair Q P all (s ∷ ss) h = all_both P (map (differ s) ss) (all_differ ss) (mapped P (differ s) ss (with_first ss h.1)) (each_pair Q P all ss h.1)
  where
    with_first : (us : List (List ℕ)) → AllByRecursion Q us → AllByRecursion (λ u. P (differ s u)) us
    with_first [] k = tt
    with_first (u ∷ us) k = (all s u h.0 k.0, with_first us k.1)

module _ (value : List ℕ → ℕ) (P : RawTree → Type 0) where
  -- a value differs from each of others
  first_apart : (v : ℕ) (us : List (List ℕ)) → AllByRecursion (λ u. ¬ v ≡ value u) us → (j : ℕ) → j < length (map value us) → ¬ v ≡ slice_index (map value us) j
  first_apart v [] h j lt = absurd (omega arith)
  first_apart v (u ∷ us) h zero lt = h.0
  first_apart v (u ∷ us) h (suc j) lt = first_apart v us h.1 j (omega arith)

  apart_first : (v : ℕ) (us : List (List ℕ)) → ((j : ℕ) → j < length (map value us) → ¬ v ≡ slice_index (map value us) j) → AllByRecursion (λ u. ¬ v ≡ value u) us
  apart_first v [] h = tt
  apart_first v (u ∷ us) h = (h 0 (omega arith), apart_first v us (λ j lt. h (suc j) (omega (arith, lt))))

  weaker : {A B : List ℕ → Type 0} → ((u : List ℕ) → A u → B u) → (us : List (List ℕ)) → AllByRecursion A us → AllByRecursion B us
  weaker leads [] h = tt
  weaker leads (u ∷ us) h = (leads u h.0, weaker leads us h.1)

  pub pairs_differ : ((s u : List ℕ) → P (differ s u) → ¬ value s ≡ value u) → (ns : List (List ℕ)) → AllByRecursion P (all_differ ns) → AreDifferent (map value ns)
  pairs_differ says [] h i j lt inside = absurd (omega arith)
  pairs_differ says (s ∷ ss) h zero zero lt inside = absurd (omega arith)
  pairs_differ says (s ∷ ss) h zero (suc j) lt inside =
      first_apart (value s) ss (weaker (says s) ss (unmapped P (differ s) ss (all_first P (map (differ s) ss) (all_differ ss) h))) j (omega arith)
  pairs_differ says (s ∷ ss) h (suc i) zero lt inside = absurd (omega arith)
  pairs_differ says (s ∷ ss) h (suc i) (suc j) lt inside =
      pairs_differ says ss (all_second P (map (differ s) ss) (all_differ ss) h) i j (omega arith) (omega arith)

  pub differ_pairs : ((s u : List ℕ) → (¬ value s ≡ value u) → P (differ s u)) → (ns : List (List ℕ)) → AreDifferent (map value ns) → AllByRecursion P (all_differ ns)
  differ_pairs says [] h = tt
  differ_pairs says (s ∷ ss) h =
      all_both P (map (differ s) ss) (all_differ ss)
      (mapped P (differ s) ss (weaker (says s) ss (apart_first (value s) ss (λ j lt. h 0 (suc j) (omega arith) (omega (arith, lt))))))
      (differ_pairs says ss (λ i j lt inside. h (suc i) (suc j) (omega (arith, lt)) (omega (arith, inside))))
