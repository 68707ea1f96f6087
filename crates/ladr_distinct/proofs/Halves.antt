-- Parts that are joined by halves.
use Rattle.std.proofs.Common.{◌≡◌, ℕ, zero, suc, ◌/◌, ◌<◌, ◌≤◌, map, List, [], ◌∷◌, ◌++◌, length, take, drop, refl, sym, ap, ap₂, ◌∙◌, subst, arith, codes}
use Rattle.std.specs.List.{AllByRecursion}
use Rattle.std.proofs.lemmas.List.{length-take, length-drop, length-map, length-append, take-append-drop, take-map, drop-map}
use Rattle.fol_core.specs.RawTree.{RawTree}
use Rattle.fol_core.specs.RawView.{raw_of, raw_list}
use Rattle.fol_core.specs.declared.raw.Raw.{Raw}
use Rattle.ladr_distinct.specs.Formula.{alone, halved}
use Rattle.ladr_formulas.specs.Means.{between}

-- what holds of two lists holds of both together, and the other way
pub all_both : {X : Type 0} (P : X → Type 0) (xs ys : List X) → AllByRecursion P xs → AllByRecursion P ys → AllByRecursion P (xs ++ ys)
all_both P [] ys h k = k
all_both P (x ∷ xs) ys h k = (h.0, all_both P xs ys h.1 k)

pub all_first : {X : Type 0} (P : X → Type 0) (xs ys : List X) → AllByRecursion P (xs ++ ys) → AllByRecursion P xs
all_first P [] ys h = tt
all_first P (x ∷ xs) ys h = (h.0, all_first P xs ys h.1)

pub all_second : {X : Type 0} (P : X → Type 0) (xs ys : List X) → AllByRecursion P (xs ++ ys) → AllByRecursion P ys
all_second P [] ys h = h
all_second P (x ∷ xs) ys h = all_second P xs ys h.1

-- the two halves
pub first_half : {X : Type 0} (P : X → Type 0) (half : ℕ) (xs : List X) → AllByRecursion P xs → AllByRecursion P (take half xs)
first_half {X} P half xs h = all_first P (take half xs) (drop half xs) (subst (λ (ys : List X). AllByRecursion P ys) (sym (take-append-drop half xs)) h)

pub second_half : {X : Type 0} (P : X → Type 0) (half : ℕ) (xs : List X) → AllByRecursion P xs → AllByRecursion P (drop half xs)
second_half {X} P half xs h = all_second P (take half xs) (drop half xs) (subst (λ (ys : List X). AllByRecursion P ys) (sym (take-append-drop half xs)) h)

pub both_halves : {X : Type 0} (P : X → Type 0) (half : ℕ) (xs : List X) → AllByRecursion P (take half xs) → AllByRecursion P (drop half xs) → AllByRecursion P xs
both_halves {X} P half xs h k = subst (λ (ys : List X). AllByRecursion P ys) (take-append-drop half xs) (all_both P (take half xs) (drop half xs) h k)

-- What holds of the parts, of `$T` and of two joined terms of which it holds, holds of all joined.
pub halved_all : (P : RawTree → Type 0) → P (alone (codes "$T")) → ((t u : RawTree) → P t → P u → P (between (codes "&") t u)) → (n : ℕ) (ts : List RawTree) → AllByRecursion P ts → P (halved n ts)
unfolding halved
halved_all P none both n [] h = none
halved_all P none both n (t ∷ []) h = h.0
halved_all P none both zero (t ∷ u ∷ ts) h = none
halved_all P none both (suc n) (t ∷ u ∷ ts) h =
    let half = length (t ∷ u ∷ ts) / 2 in
    both (halved n (take half (t ∷ u ∷ ts))) (halved n (drop half (t ∷ u ∷ ts)))
    (halved_all P none both n (take half (t ∷ u ∷ ts)) (first_half P half (t ∷ u ∷ ts) h))
    (halved_all P none both n (drop half (t ∷ u ∷ ts)) (second_half P half (t ∷ u ∷ ts) h))

-- the parts in a half are fewer
pub fewer_first : (n : ℕ) (t u : RawTree) (ts : List RawTree) → length (t ∷ u ∷ ts) ≤ suc n → length (take (length (t ∷ u ∷ ts) / 2) (t ∷ u ∷ ts)) ≤ n
fewer_first n t u ts h = omega (arith, h, length-take (length (t ∷ u ∷ ts) / 2) (t ∷ u ∷ ts))

pub fewer_second : (n : ℕ) (t u : RawTree) (ts : List RawTree) → length (t ∷ u ∷ ts) ≤ suc n → length (drop (length (t ∷ u ∷ ts) / 2) (t ∷ u ∷ ts)) ≤ n
fewer_second n t u ts h = omega (arith, h, length-drop (length (t ∷ u ∷ ts) / 2) (t ∷ u ∷ ts))

-- any number that is at least that of the parts gives the same
pub halved_same : (n m : ℕ) (ts : List RawTree) → length ts ≤ n → length ts ≤ m → halved n ts ≡ halved m ts
unfolding halved
halved_same n m [] h k = refl
halved_same n m (t ∷ []) h k = refl
halved_same zero m (t ∷ u ∷ ts) h k = absurd (omega arith)
halved_same (suc n) zero (t ∷ u ∷ ts) h k = absurd (omega arith)
halved_same (suc n) (suc m) (t ∷ u ∷ ts) h k =
    let half = length (t ∷ u ∷ ts) / 2 in
    ap₂ (λ a b. between (codes "&") a b)
    (halved_same n m (take half (t ∷ u ∷ ts)) (fewer_first n t u ts h) (fewer_first m t u ts k))
    (halved_same n m (drop half (t ∷ u ∷ ts)) (fewer_second n t u ts h) (fewer_second m t u ts k))

-- the halves of two parts or more, each joined by itself
pub joined_halves : (ts : List RawTree) (half : ℕ) → 2 ≤ length ts → half ≡ length ts / 2
    → between (codes "&") (halved (length (take half ts)) (take half ts)) (halved (length (drop half ts)) (drop half ts)) ≡ halved (length ts) ts
unfolding halved
joined_halves [] half h e = absurd (omega (arith, h))
joined_halves (t ∷ []) half h e = absurd (omega (arith, h))
joined_halves (t ∷ u ∷ ts) half h e =
    let all = t ∷ u ∷ ts in
    ap (λ (k : ℕ). between (codes "&") (halved (length (take k all)) (take k all)) (halved (length (drop k all)) (drop k all))) e
    ∙ ap₂ (λ a b. between (codes "&") a b)
    (halved_same (length (take (length all / 2) all)) (suc (length ts)) (take (length all / 2) all) (omega arith) (fewer_first (suc (length ts)) t u ts (omega arith)))
    (halved_same (length (drop (length all / 2) all)) (suc (length ts)) (drop (length all / 2) all) (omega arith) (fewer_second (suc (length ts)) t u ts (omega arith)))

-- parts of the code, in two halves
pub joined_parts : (xs ys zs : List Raw) (half : ℕ) (a b : RawTree) → 2 ≤ length xs → half ≡ length xs / 2 → ys ≡ take half xs → zs ≡ drop half xs
    → a ≡ halved (length ys) (raw_list ys) → b ≡ halved (length zs) (raw_list zs) → between (codes "&") a b ≡ halved (length xs) (raw_list xs)
joined_parts xs ys zs half a b h e is_first is_second first second =
    let many : length (raw_list xs) ≡ length xs = length-map xs raw_of in
    let one : a ≡ halved (length (take half (raw_list xs))) (take half (raw_list xs)) =
    first ∙ ap (λ (us : List Raw). halved (length us) (raw_list us)) is_first
    ∙ ap (λ (n : ℕ). halved n (map raw_of (take half xs))) (sym (length-map (take half xs) raw_of))
    ∙ ap (λ (us : List RawTree). halved (length us) us) (sym (take-map raw_of half xs)) in
    let two : b ≡ halved (length (drop half (raw_list xs))) (drop half (raw_list xs)) =
    second ∙ ap (λ (us : List Raw). halved (length us) (raw_list us)) is_second
    ∙ ap (λ (n : ℕ). halved n (map raw_of (drop half xs))) (sym (length-map (drop half xs) raw_of))
    ∙ ap (λ (us : List RawTree). halved (length us) us) (sym (drop-map raw_of half xs)) in
    ap₂ (λ u v. between (codes "&") u v) one two
    ∙ joined_halves (raw_list xs) half (omega (arith, h, many)) (e ∙ ap (λ (n : ℕ). n / 2) (sym many))
    ∙ ap (λ (n : ℕ). halved n (raw_list xs)) many

-- one part, and none
pub one_part : (xs ys : List Raw) (x : Raw) → xs ≡ ys ++ x ∷ [] → length xs < 2 → raw_of x ≡ halved (length xs) (raw_list xs)
unfolding halved
one_part xs [] x e h = sym (ap (λ (us : List Raw). halved (length us) (raw_list us)) e)
one_part xs (y ∷ ys) x e h = let n = ap (λ (us : List Raw). length us) e in absurd (omega (arith, h, n, length-append ys (x ∷ [])))

pub no_part : (xs : List Raw) → (0 < length xs → ⊥) → alone (codes "$T") ≡ halved (length xs) (raw_list xs)
unfolding halved
no_part [] h = refl
no_part (x ∷ xs) h = absurd (h (omega arith))
