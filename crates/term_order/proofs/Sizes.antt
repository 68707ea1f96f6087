-- Sums over arguments, from one place on.
use Rattle.std.proofs.Common.{◌≡◌, ℕ, zero, suc, ◌+◌, ◌<◌, ◌≤◌, Bool, true, false, if◌then◌else◌, ◌==◌, ◌&&◌, List, [], ◌∷◌, length, get_or, ap, ◌∙◌, arith}
use Rattle.std.proofs.lemmas.List.{drop_all, drop_more}
use Rattle.fol_core.specs.Sizes.{size_of, sizes_of}
use Rattle.fol_core.specs.Tree.{Tree, var, elem, app, Trees, none, more, trees_of}
use Rattle.term_bank.specs.Bank.{tree_at}
use Rattle.term_bank.specs.declared.id.TermId.{TermId}
use Rattle.term_order.specs.Compared.{trees_under}
use Rattle.term_order.specs.Kbo.{times_in, times_in_all, weigh, weigh_all, none_oftener, none_oftener_all}
use Rattle.term_order.proofs.Walks.{terms_from}

-- a variable stands at most as often as there are places
mutual
  pub times_within : (x : ℕ) (t : Tree) → times_in x t ≤ size_of t
  times_within x (var y) = by (x == y)
    where
      by : (b : Bool) → (if b then 1 else 0) ≤ 1
      by true = omega arith
      by false = omega arith
  times_within x (elem k) = omega arith
  times_within x (app f ts) = let h = times_all_within x ts in omega (arith, h)

  pub times_all_within : (x : ℕ) (ts : Trees) → times_in_all x ts ≤ sizes_of ts
  times_all_within x none = omega arith
  times_all_within x (more t ts) = let h = times_within x t in let k = times_all_within x ts in omega (arith, h, k)

module _ (bank : List Tree) (ks : List TermId) (i : ℕ) where
  pub times_next : (x : ℕ) (d : TermId) → i < length ks
      → times_in_all x (trees_of (terms_from bank ks i)) ≡ times_in x (tree_at bank (get_or ks i d).0) + times_in_all x (trees_of (terms_from bank ks (i + 1)))
  times_next x d h = ap (λ (js : List TermId). times_in_all x (trees_of (trees_under bank js))) (drop_more ks i d h)

  pub times_last : (x : ℕ) → length ks ≤ i → times_in_all x (trees_of (terms_from bank ks i)) ≡ 0
  times_last x h = ap (λ (js : List TermId). times_in_all x (trees_of (trees_under bank js))) (drop_all i ks h)

  pub sizes_next : (d : TermId) → i < length ks → sizes_of (trees_of (terms_from bank ks i)) ≡ size_of (tree_at bank (get_or ks i d).0) + sizes_of (trees_of (terms_from bank ks (i + 1)))
  sizes_next d h = ap (λ (js : List TermId). sizes_of (trees_of (trees_under bank js))) (drop_more ks i d h)

  -- weights, and the test of variables, likewise
  pub weights_next : (weight : ℕ → ℕ) (d : TermId) → i < length ks
      → weigh_all weight (trees_of (terms_from bank ks i)) ≡ weigh weight (tree_at bank (get_or ks i d).0) + weigh_all weight (trees_of (terms_from bank ks (i + 1)))
  weights_next weight d h = ap (λ (js : List TermId). weigh_all weight (trees_of (trees_under bank js))) (drop_more ks i d h)

  pub weights_last : (weight : ℕ → ℕ) → length ks ≤ i → weigh_all weight (trees_of (terms_from bank ks i)) ≡ 0
  weights_last weight h = ap (λ (js : List TermId). weigh_all weight (trees_of (trees_under bank js))) (drop_all i ks h)

  pub sizes_last : length ks ≤ i → sizes_of (trees_of (terms_from bank ks i)) ≡ 0
  sizes_last h = ap (λ (js : List TermId). sizes_of (trees_of (trees_under bank js))) (drop_all i ks h)

  pub oftener_here : (ss ts : Trees) (d : TermId) → i < length ks → none_oftener ss ts (tree_at bank (get_or ks i d).0) ≡ false
      → none_oftener_all ss ts (trees_of (terms_from bank ks i)) ≡ false
  oftener_here ss ts d h e =
      ap (λ (js : List TermId). none_oftener_all ss ts (trees_of (trees_under bank js))) (drop_more ks i d h)
      ∙ ap (λ (b : Bool). b && none_oftener_all ss ts (trees_of (terms_from bank ks (i + 1)))) e

  pub oftener_behind : (ss ts : Trees) (d : TermId) → i < length ks → none_oftener ss ts (tree_at bank (get_or ks i d).0) ≡ true
      → none_oftener_all ss ts (trees_of (terms_from bank ks i)) ≡ none_oftener_all ss ts (trees_of (terms_from bank ks (i + 1)))
  oftener_behind ss ts d h e =
      ap (λ (js : List TermId). none_oftener_all ss ts (trees_of (trees_under bank js))) (drop_more ks i d h)
      ∙ ap (λ (b : Bool). b && none_oftener_all ss ts (trees_of (terms_from bank ks (i + 1)))) e

  pub oftener_end : (ss ts : Trees) → length ks ≤ i → none_oftener_all ss ts (trees_of (terms_from bank ks i)) ≡ true
  oftener_end ss ts h = ap (λ (js : List TermId). none_oftener_all ss ts (trees_of (trees_under bank js))) (drop_all i ks h)

-- each is at most as great as all together
pub size_at : (bank : List Tree) (ks : List TermId) (i : ℕ) (d : TermId) → i < length ks → size_of (tree_at bank (get_or ks i d).0) ≤ sizes_of (trees_of (trees_under bank ks))
size_at bank [] i d h = let no : ⊥ = omega (arith, h) in elim no [ ]
size_at bank (k ∷ ks) zero d h = omega arith
size_at bank (k ∷ ks) (suc i) d h = let inner : i < length ks = omega (arith, h) in let r = size_at bank ks i d inner in omega (arith, r)
