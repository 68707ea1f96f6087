-- Terms weighed one after the other.
use Rattle.std.proofs.Common.{◌≡◌, ℕ, zero, suc, ◌+◌, ◌<◌, ◌≤◌, Bool, true, false, if◌then◌else◌, ◌&&◌, List, [], ◌∷◌, length, get_or, drop, refl, sym, ap, ap₂, ◌∙◌, arith}
use Rattle.std.proofs.lemmas.List.{drop_all}
use Rattle.fol_core.specs.Sizes.{size_of, sizes_of}
use Rattle.fol_core.specs.TermView.{tree_of, tree_list}
use Rattle.fol_core.specs.Tree.{Trees, none, more, nodes, nodes_of, trees_of}
use Rattle.fol_core.specs.declared.term.Term.{Term}
use Rattle.held_clauses.proofs.Items.{drop_item}
use Rattle.held_clauses.proofs.PathSteps.{different}
use Rattle.term_order.specs.Kbo.{times_in, times_in_all, weigh, weigh_all, none_oftener, none_oftener_all, kbo_first, kbo_greater}
use Rattle.unifiers.specs.Matching.{same_tree}
use Rattle.unifiers.proofs.MatchesFound.{same_itself}

-- the terms from a place on
abbrev pub terms_from : List Term → ℕ → Trees
terms_from ts i = trees_of (tree_list (drop i ts))

next_terms : (ts : List Term) (i : ℕ) (t : Term) → i < length ts → t ≡ get_or ts i t → terms_from ts i ≡ more (tree_of t) (terms_from ts (i + 1))
next_terms ts i t h is = ap (λ us. trees_of (tree_list us)) (drop_item ts i t h is)

no_terms : (ts : List Term) (i : ℕ) → length ts ≤ i → terms_from ts i ≡ none
no_terms ts i h = ap (λ us. trees_of (tree_list us)) (drop_all i ts h)

module _ (ts : List Term) (i : ℕ) (t : Term) (h : i < length ts) (is : t ≡ get_or ts i t) where
  pub times_next : (x : ℕ) → times_in_all x (terms_from ts i) ≡ times_in x (tree_of t) + times_in_all x (terms_from ts (i + 1))
  times_next x = ap (times_in_all x) (next_terms ts i t h is)

  pub weights_next : (weight : ℕ → ℕ) → weigh_all weight (terms_from ts i) ≡ weigh weight (tree_of t) + weigh_all weight (terms_from ts (i + 1))
  weights_next weight = ap (weigh_all weight) (next_terms ts i t h is)

  pub sizes_next : sizes_of (terms_from ts i) ≡ size_of (tree_of t) + sizes_of (terms_from ts (i + 1))
  sizes_next = ap sizes_of (next_terms ts i t h is)

  pub oftener_here : (ss us : Trees) → none_oftener ss us (tree_of t) ≡ false → none_oftener_all ss us (terms_from ts i) ≡ false
  oftener_here ss us e = ap (none_oftener_all ss us) (next_terms ts i t h is) ∙ ap (λ b. b && none_oftener_all ss us (terms_from ts (i + 1))) e

  pub oftener_behind : (ss us : Trees) → none_oftener ss us (tree_of t) ≡ true → none_oftener_all ss us (terms_from ts i) ≡ none_oftener_all ss us (terms_from ts (i + 1))
  oftener_behind ss us e = ap (none_oftener_all ss us) (next_terms ts i t h is) ∙ ap (λ b. b && none_oftener_all ss us (terms_from ts (i + 1))) e

module _ (ts : List Term) (i : ℕ) (h : length ts ≤ i) where
  pub times_last : (x : ℕ) → times_in_all x (terms_from ts i) ≡ 0
  times_last x = ap (times_in_all x) (no_terms ts i h)

  pub weights_last : (weight : ℕ → ℕ) → weigh_all weight (terms_from ts i) ≡ 0
  weights_last weight = ap (weigh_all weight) (no_terms ts i h)

  pub sizes_last : sizes_of (terms_from ts i) ≡ 0
  sizes_last = ap sizes_of (no_terms ts i h)

  pub oftener_end : (ss us : Trees) → none_oftener_all ss us (terms_from ts i) ≡ true
  oftener_end ss us = ap (none_oftener_all ss us) (no_terms ts i h)

-- each is at most as large as all together
pub size_at : (ts : List Term) (i : ℕ) (t : Term) → i < length ts → t ≡ get_or ts i t → size_of (tree_of t) ≤ sizes_of (trees_of (tree_list ts))
size_at [] i t h is = absurd (omega (arith, h))
size_at (u ∷ ts) zero t h is = let same = ap (λ r. size_of (tree_of r)) is in omega (arith, same)
size_at (u ∷ ts) (suc i) t h is = let rest = size_at ts i t (omega (arith, h)) is in omega (arith, rest)

pub nodes_at : (ts : List Term) (i : ℕ) (t : Term) → i < length ts → t ≡ get_or ts i t → nodes (tree_of t) ≤ nodes_of (trees_of (tree_list ts))
nodes_at [] i t h is = absurd (omega (arith, h))
nodes_at (u ∷ ts) zero t h is = let same = ap (λ r. nodes (tree_of r)) is in omega (arith, same)
nodes_at (u ∷ ts) (suc i) t h is = let rest = nodes_at ts i t (omega (arith, h)) is in omega (arith, rest)

pub first_sizes : (ss us : List Term) (s : Term) → ss ≡ s ∷ us → size_of (tree_of s) + sizes_of (trees_of (tree_list us)) ≡ sizes_of (trees_of (tree_list ss))
first_sizes ss us s is = sym (ap (λ xs. sizes_of (trees_of (tree_list xs))) is)

-- the first terms that differ
module _ (above : ℕ → ℕ → Bool) (weight : ℕ → ℕ) where
  pub first_ends : (ss : List Term) (ts : Trees) → length ss ≡ 0 → false ≡ kbo_first above weight (trees_of (tree_list ss)) ts
  first_ends [] ts e = refl
  first_ends (s ∷ ss) ts e = absurd (omega (arith, e))

  pub second_ends : (ss ts : List Term) → length ts ≡ 0 → false ≡ kbo_first above weight (trees_of (tree_list ss)) (trees_of (tree_list ts))
  second_ends [] [] e = refl
  second_ends (s ∷ ss) [] e = refl
  second_ends ss (t ∷ ts) e = absurd (omega (arith, e))

  step : (ss ts us vs : List Term) (s t : Term) → ss ≡ s ∷ us → ts ≡ t ∷ vs → kbo_first above weight (trees_of (tree_list ss)) (trees_of (tree_list ts))
      ≡ (if same_tree (tree_of s) (tree_of t) then kbo_first above weight (trees_of (tree_list us)) (trees_of (tree_list vs)) else kbo_greater above weight (tree_of s) (tree_of t))
  step ss ts us vs s t is was = ap₂ (λ xs ys. kbo_first above weight (trees_of (tree_list xs)) (trees_of (tree_list ys))) is was

  pub first_same : (ss ts us vs : List Term) (s t : Term) → ss ≡ s ∷ us → ts ≡ t ∷ vs → tree_of s ≡ tree_of t
      → kbo_first above weight (trees_of (tree_list us)) (trees_of (tree_list vs)) ≡ kbo_first above weight (trees_of (tree_list ss)) (trees_of (tree_list ts))
  first_same ss ts us vs s t is was same =
      let yes : same_tree (tree_of s) (tree_of t) ≡ true = ap (same_tree (tree_of s)) (sym same) ∙ same_itself (tree_of s) in
      sym (step ss ts us vs s t is was ∙ ap (λ b. if b then kbo_first above weight (trees_of (tree_list us)) (trees_of (tree_list vs)) else kbo_greater above weight (tree_of s) (tree_of t)) yes)

  pub first_other : (ss ts us vs : List Term) (s t : Term) → ss ≡ s ∷ us → ts ≡ t ∷ vs → (tree_of s ≡ tree_of t → ⊥)
      → kbo_greater above weight (tree_of s) (tree_of t) ≡ kbo_first above weight (trees_of (tree_list ss)) (trees_of (tree_list ts))
  first_other ss ts us vs s t is was other =
      sym (step ss ts us vs s t is was ∙ ap (λ b. if b then kbo_first above weight (trees_of (tree_list us)) (trees_of (tree_list vs)) else kbo_greater above weight (tree_of s) (tree_of t)) (different (tree_of s) (tree_of t) other))
