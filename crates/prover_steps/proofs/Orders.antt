-- What is greater by an order of terms has each variable of the other.
use Rattle.std.proofs.Common.{◌≡◌, ℕ, Bool, true, ◌==◌, ◌&&◌, List, [], ◌∷◌, refl, sym, ap, subst, ◌∙◌, eqb-true, eq-eqb}
use Rattle.std.proofs.lemmas.Bool.{or_left, or_right}
use Rattle.std.specs.List.{list_all}
use Rattle.fol_core.specs.Free.{is_in, variables_of}
use Rattle.fol_core.specs.Tree.{Tree, var, elem, app, Trees}
use Rattle.substitutions.specs.Occurring.{has_variable, have_variable}
use Rattle.substitutions.proofs.Composing.{has_listed}
use Rattle.term_order.specs.Kbo.{kbo_greater}
use Rattle.term_order.specs.Laws.{IsTermOrder}
use Rattle.term_order.specs.Lpo.{lpo_greater}
use Rattle.prover_steps.specs.SearchLaws.{KeepsVariables}

list_all_from : (p : ℕ → Bool) (xs : List ℕ) → ((x : ℕ) → is_in x xs ≡ true → p x ≡ true) → list_all p xs ≡ true
list_all_from p [] each = refl
list_all_from p (y ∷ xs) each =
    ap (λ b. b && list_all p xs) (each y (or_left (y == y) (is_in y xs) (eq-eqb y y refl)))
    ∙ list_all_from p xs (λ x i. each x (or_right (x == y) (is_in x xs) i))

module _ (greater : Tree → Tree → Bool) (order : IsTermOrder greater) (below : (f : ℕ) (ss : Trees) (x : ℕ) → have_variable x ss ≡ true → greater (app f ss) (var x) ≡ true)
    (has : (s : Tree) (x : ℕ) → greater s (var x) ≡ true → has_variable x s ≡ true) where
  pub keeps : KeepsVariables greater
  keeps s t h = list_all_from (λ x. has_variable x s) (variables_of t) (λ x i. by x t h (has_listed x t ∙ i))
    where
      by : (x : ℕ) (t : Tree) → greater s t ≡ true → has_variable x t ≡ true → has_variable x s ≡ true
      by x (var y) h i = subst (λ z. has_variable z s ≡ true) (sym (eqb-true x y i)) (has s y h)
      by x (elem k) h i = cc
      by x (app f ts) h i = has s x (order.transitive s (app f ts) (var x) h (below f ts x i))

module _ (above : ℕ → ℕ → Bool) where
  pub lpo_has : (s : Tree) (x : ℕ) → lpo_greater above s (var x) ≡ true → has_variable x s ≡ true
  lpo_has (var z) x h = cc
  lpo_has (elem k) x h = cc
  lpo_has (app f ss) x h = h

  pub lpo_below : (f : ℕ) (ss : Trees) (x : ℕ) → have_variable x ss ≡ true → lpo_greater above (app f ss) (var x) ≡ true
  lpo_below f ss x h = h

module _ (above : ℕ → ℕ → Bool) (weight : ℕ → ℕ) where
  pub kbo_has : (s : Tree) (x : ℕ) → kbo_greater above weight s (var x) ≡ true → has_variable x s ≡ true
  kbo_has (var z) x h = cc
  kbo_has (elem k) x h = cc
  kbo_has (app f ss) x h = h

  pub kbo_below : (f : ℕ) (ss : Trees) (x : ℕ) → have_variable x ss ≡ true → kbo_greater above weight (app f ss) (var x) ≡ true
  kbo_below f ss x h = h
