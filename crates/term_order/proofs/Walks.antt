-- Arguments gone through one by one.
use Rattle.std.proofs.Common.{◌≡◌, ℕ, ◌+◌, ◌<◌, ◌≤◌, Bool, true, false, ◌||◌, ◌&&◌, List, [], ◌∷◌, length, get_or, drop, ap, ap₂, ◌∙◌}
use Rattle.std.proofs.lemmas.List.{drop_all, drop_more}
use Rattle.fol_core.specs.Tree.{Tree, trees_of}
use Rattle.substitutions.specs.Occurring.{has_variable, have_variable}
use Rattle.term_bank.specs.Bank.{tree_at}
use Rattle.term_bank.specs.declared.id.TermId.{TermId}
use Rattle.term_order.specs.Compared.{trees_under, is_greater_than_each}
use Rattle.term_order.specs.Lpo.{lpo_greater, some_at_least}
use Rattle.term_order.proofs.Fronts.{different}
use Rattle.term_order.proofs.Tests.{left_or, right_or, same_from}
use Rattle.unifiers.specs.Matching.{same_tree}

-- the terms from one place on
abbrev pub terms_from : List Tree → List TermId → ℕ → List Tree
terms_from bank ks i = trees_under bank (drop i ks)

module _ (bank : List Tree) (ks : List TermId) (i : ℕ) where
  next : (d : TermId) → i < length ks → terms_from bank ks i ≡ tree_at bank (get_or ks i d).0 ∷ terms_from bank ks (i + 1)
  next d h = ap (trees_under bank) (drop_more ks i d h)

  last : length ks ≤ i → terms_from bank ks i ≡ []
  last h = ap (trees_under bank) (drop_all i ks h)

  -- whether one of them has a variable
  pub variable_here : (x : ℕ) (d : TermId) → i < length ks → has_variable x (tree_at bank (get_or ks i d).0) ≡ true → have_variable x (trees_of (terms_from bank ks i)) ≡ true
  variable_here x d h e = ap (λ (ts : List Tree). have_variable x (trees_of ts)) (next d h) ∙ ap (λ (b : Bool). b || have_variable x (trees_of (terms_from bank ks (i + 1)))) e

  pub variable_behind : (x : ℕ) (d : TermId) → i < length ks → has_variable x (tree_at bank (get_or ks i d).0) ≡ false
      → have_variable x (trees_of (terms_from bank ks i)) ≡ have_variable x (trees_of (terms_from bank ks (i + 1)))
  variable_behind x d h e = ap (λ (ts : List Tree). have_variable x (trees_of ts)) (next d h) ∙ ap (λ (b : Bool). b || have_variable x (trees_of (terms_from bank ks (i + 1)))) e

  pub variable_end : (x : ℕ) → length ks ≤ i → have_variable x (trees_of (terms_from bank ks i)) ≡ false
  variable_end x h = ap (λ (ts : List Tree). have_variable x (trees_of ts)) (last h)

  -- whether one of them is at least a term
  module _ (above : ℕ → ℕ → Bool) where
    least_step : (t : Tree) (d : TermId) (b : Bool) → i < length ks → (same_tree (tree_at bank (get_or ks i d).0) t || lpo_greater above (tree_at bank (get_or ks i d).0) t) ≡ b
        → some_at_least above (trees_of (terms_from bank ks i)) t ≡ (b || some_at_least above (trees_of (terms_from bank ks (i + 1))) t)
    least_step t d b h e = ap (λ (ts : List Tree). some_at_least above (trees_of ts) t) (next d h) ∙ ap (λ (c : Bool). c || some_at_least above (trees_of (terms_from bank ks (i + 1))) t) e

    pub least_same : (t : Tree) (d : TermId) → i < length ks → tree_at bank (get_or ks i d).0 ≡ t → some_at_least above (trees_of (terms_from bank ks i)) t ≡ true
    least_same t d h e = least_step t d true h (left_or (same_tree (tree_at bank (get_or ks i d).0) t) (lpo_greater above (tree_at bank (get_or ks i d).0) t) (same_from (tree_at bank (get_or ks i d).0) t e))

    pub least_greater : (t : Tree) (d : TermId) → i < length ks → lpo_greater above (tree_at bank (get_or ks i d).0) t ≡ true → some_at_least above (trees_of (terms_from bank ks i)) t ≡ true
    least_greater t d h e = least_step t d true h (right_or (same_tree (tree_at bank (get_or ks i d).0) t) (lpo_greater above (tree_at bank (get_or ks i d).0) t) e)

    pub least_behind : (t : Tree) (d : TermId) → i < length ks → (tree_at bank (get_or ks i d).0 ≡ t → ⊥) → lpo_greater above (tree_at bank (get_or ks i d).0) t ≡ false
        → some_at_least above (trees_of (terms_from bank ks i)) t ≡ some_at_least above (trees_of (terms_from bank ks (i + 1))) t
    least_behind t d h e g = least_step t d false h (ap₂ (λ (a b : Bool). a || b) (different (tree_at bank (get_or ks i d).0) t e) g)

    pub least_end : (t : Tree) → length ks ≤ i → some_at_least above (trees_of (terms_from bank ks i)) t ≡ false
    least_end t h = ap (λ (ts : List Tree). some_at_least above (trees_of ts) t) (last h)

    -- whether a term is greater than each of them
    pub each_here : (s : Tree) (d : TermId) → i < length ks → lpo_greater above s (tree_at bank (get_or ks i d).0) ≡ false
        → is_greater_than_each (lpo_greater above) s (terms_from bank ks i) ≡ false
    each_here s d h e = ap (is_greater_than_each (lpo_greater above) s) (next d h) ∙ ap (λ (b : Bool). b && is_greater_than_each (lpo_greater above) s (terms_from bank ks (i + 1))) e

    pub each_behind : (s : Tree) (d : TermId) → i < length ks → lpo_greater above s (tree_at bank (get_or ks i d).0) ≡ true
        → is_greater_than_each (lpo_greater above) s (terms_from bank ks i) ≡ is_greater_than_each (lpo_greater above) s (terms_from bank ks (i + 1))
    each_behind s d h e = ap (is_greater_than_each (lpo_greater above) s) (next d h) ∙ ap (λ (b : Bool). b && is_greater_than_each (lpo_greater above) s (terms_from bank ks (i + 1))) e

    pub each_end : (s : Tree) → length ks ≤ i → is_greater_than_each (lpo_greater above) s (terms_from bank ks i) ≡ true
    each_end s h = ap (is_greater_than_each (lpo_greater above) s) (last h)
