-- Lists that are the same, element by element.
use Rattle.std.proofs.Common.{◌≡◌, ℕ, zero, suc, ◌<◌, ◌≤◌, List, [], ◌∷◌, map, length, take, get_or, refl, sym, ap, ap₂, ◌∙◌, arith}
use Rattle.std.proofs.lemmas.List.{take_all}
use Rattle.fol_core.specs.Tree.{Tree, app, trees_of, list_of}

pub list_back : (ts : List Tree) → list_of (trees_of ts) ≡ ts
list_back [] = refl
list_back (t ∷ ts) = ap (λ l. t ∷ l) (list_back ts)

pub trees_back : (ts us : List Tree) → trees_of ts ≡ trees_of us → ts ≡ us
trees_back ts us h = sym (list_back ts) ∙ ap list_of h ∙ list_back us

-- the arguments of equal applications
pub arguments_back : (f g : ℕ) (ts us : List Tree) → app f (trees_of ts) ≡ app g (trees_of us) → ts ≡ us
arguments_back f g ts us h = let e : trees_of ts ≡ trees_of us = cc in trees_back ts us e

module _ {A B : Type 0} (v : A → B) where
  -- one more element is the same
  pub front_more : (xs ys : List A) (i : ℕ) (d e : A) → i < length xs → i < length ys → map v (take i xs) ≡ map v (take i ys)
      → v (get_or xs i d) ≡ v (get_or ys i e) → map v (take (suc i) xs) ≡ map v (take (suc i) ys)
  front_more [] ys i d e h k front here = absurd (omega arith)
  front_more (x ∷ xs) [] i d e h k front here = absurd (omega arith)
  front_more (x ∷ xs) (y ∷ ys) zero d e h k front here = ap (λ z. z ∷ []) here
  front_more (x ∷ xs) (y ∷ ys) (suc i) d e h k front here =
      let first : v x ≡ v y = cc in
      let rest : map v (take i xs) ≡ map v (take i ys) = cc in
      ap₂ (λ z zs. z ∷ zs) first (front_more xs ys i d e (omega arith) (omega arith) rest here)

  -- so are those of equal lists
  pub element_same : (xs ys : List A) (i : ℕ) (d e : A) → i < length xs → map v xs ≡ map v ys → v (get_or xs i d) ≡ v (get_or ys i e)
  element_same [] ys i d e h same = absurd (omega arith)
  element_same (x ∷ xs) [] i d e h same = cc
  element_same (x ∷ xs) (y ∷ ys) zero d e h same = cc
  element_same (x ∷ xs) (y ∷ ys) (suc i) d e h same = let rest : map v xs ≡ map v ys = cc in element_same xs ys i d e (omega arith) rest

  pub length_same : (xs ys : List A) → map v xs ≡ map v ys → length xs ≡ length ys
  length_same [] [] same = refl
  length_same [] (y ∷ ys) same = cc
  length_same (x ∷ xs) [] same = cc
  length_same (x ∷ xs) (y ∷ ys) same = let rest : map v xs ≡ map v ys = cc in ap suc (length_same xs ys rest)

  pub all_same : (xs ys : List A) (i : ℕ) → length xs ≤ i → length ys ≤ i → map v (take i xs) ≡ map v (take i ys) → map v xs ≡ map v ys
  all_same xs ys i h k front = sym (ap (map v) (take_all i xs h)) ∙ front ∙ ap (map v) (take_all i ys k)
