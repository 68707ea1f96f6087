-- What is greater has each variable of the other term; and these tests, argument by argument.
use Rattle.std.proofs.Common.{◌≡◌, ℕ, ◌+◌, ◌<◌, ◌≤◌, Bool, true, false, ◌&&◌, List, length, get_or, drop, refl, sym, ap, subst, ◌∙◌, eqb-true, eq-eqb, arith}
use Rattle.std.proofs.lemmas.Bool.{or_left, or_right, false_from_ne_true}
use Rattle.std.proofs.lemmas.List.{drop_all}
use Rattle.fol_core.specs.TermView.{tree_of, tree_list}
use Rattle.fol_core.specs.Tree.{Tree, Trees, none, more, var, elem, app, trees_of}
use Rattle.fol_core.specs.declared.term.Term.{Term}
use Rattle.held_clauses.specs.Order.{greater_by}
use Rattle.held_clauses.specs.Variables.{has_each_of, has_each_of_all}
use Rattle.held_clauses.proofs.Comparing.{kbo_irreflexive}
use Rattle.held_clauses.proofs.Items.{drop_item}
use Rattle.ladr_options.specs.declared.options.Order.{Order}
use Rattle.ladr_options.specs.declared.options.Order.TheVariants.{Lpo, Kbo}
use Rattle.substitutions.specs.Occurring.{has_variable, have_variable}
use Rattle.term_order.specs.Kbo.{kbo_greater, none_oftener_all}
use Rattle.term_order.specs.Laws.{IsSymbolOrder, IsTermOrder}
use Rattle.term_order.specs.Lpo.{lpo_greater}
use Rattle.term_order.proofs.Occurrences.{each_from, once_all, stands_all}
use Rattle.term_order.proofs.Tests.{split_and}

-- each variable of a term is one of another
abbrev HasAll : Tree → Tree → Type 0
HasAll s t = (x : ℕ) → has_variable x t ≡ true → has_variable x s ≡ true

mutual
  each_has : (s t : Tree) → HasAll s t → has_each_of s t ≡ true
  each_has s (var x) h = h x (eq-eqb x x refl)
  each_has s (elem k) h = refl
  each_has s (app f ts) h = all_have s ts h

  all_have : (s : Tree) (ts : Trees) → ((x : ℕ) → have_variable x ts ≡ true → has_variable x s ≡ true) → has_each_of_all s ts ≡ true
  all_have s none h = refl
  all_have s (more t ts) h =
      ap (λ b. b && has_each_of_all s ts) (each_has s t (λ x i. h x (or_left (has_variable x t) (have_variable x ts) i)))
      ∙ all_have s ts (λ x i. h x (or_right (has_variable x t) (have_variable x ts) i))

-- all path orders are orders of terms
abbrev PathOrders : Type 0
PathOrders = (above : ℕ → ℕ → Bool) → IsSymbolOrder above → IsTermOrder (lpo_greater above)

module _ (above : ℕ → ℕ → Bool) (order : IsTermOrder (lpo_greater above)) where
  lpo_has : (s : Tree) (x : ℕ) → lpo_greater above s (var x) ≡ true → has_variable x s ≡ true
  lpo_has (var z) x h = cc
  lpo_has (elem k) x h = cc
  lpo_has (app f ss) x h = h

  lpo_all : (s t : Tree) → lpo_greater above s t ≡ true → HasAll s t
  lpo_all s (var y) h x i = subst (λ z. has_variable z s ≡ true) (sym (eqb-true x y i)) (lpo_has s y h)
  lpo_all s (elem k) h x i = cc
  lpo_all s (app f ts) h x i = lpo_has s x (order.transitive s (app f ts) (var x) h i)

module _ (above : ℕ → ℕ → Bool) (weight : ℕ → ℕ) where
  kbo_all : (s t : Tree) → kbo_greater above weight s t ≡ true → HasAll s t
  kbo_all (var z) t h x i = cc
  kbo_all (elem k) t h x i = cc
  kbo_all (app f ss) (var y) h x i = subst (λ z. have_variable z ss ≡ true) (sym (eqb-true x y i)) h
  kbo_all (app f ss) (elem k) h x i = cc
  kbo_all (app f ss) (app g ts) h x i =
      let once = once_all x ts i in
      let each = each_from ss ts (split_and (none_oftener_all ss ts ts) _ h).0 x in
      stands_all x ss (omega (arith, once, each))

module _ (above : ℕ → ℕ → Bool) (weight : ℕ → ℕ) (order : IsSymbolOrder above) (paths : PathOrders) where
  -- a term isn't greater than itself
  pub not_itself : (o : Order) (t : Tree) → greater_by o above weight t t ≡ false
  not_itself Lpo t = (paths above order).irreflexive t
  not_itself Kbo t = kbo_irreflexive above weight order t

  -- nor than one with a variable that it hasn't
  pub not_without : (o : Order) (s t : Tree) → has_each_of s t ≡ false → greater_by o above weight s t ≡ false
  not_without o s t e = false_from_ne_true (greater_by o above weight s t) (λ h. let each = each_has s t (all o h) in cc)
    where
      all : (p : Order) → greater_by p above weight s t ≡ true → HasAll s t
      all Lpo h = lpo_all above (paths above order) s t h
      all Kbo h = kbo_all above weight s t h

-- whether a term has each variable of the terms from a place on
abbrev pub has_from : Tree → List Term → ℕ → Bool
has_from s ts i = has_each_of_all s (trees_of (tree_list (drop i ts)))

has_step : (s : Tree) (ts : List Term) (i : ℕ) (t : Term) → i < length ts → t ≡ get_or ts i t → has_from s ts i ≡ (has_each_of s (tree_of t) && has_from s ts (i + 1))
has_step s ts i t h is = ap (λ us. has_each_of_all s (trees_of (tree_list us))) (drop_item ts i t h is)

pub has_not : (s : Tree) (ts : List Term) (i : ℕ) (t : Term) → i < length ts → t ≡ get_or ts i t → has_each_of s (tree_of t) ≡ false → has_from s ts i ≡ false
has_not s ts i t h is e = has_step s ts i t h is ∙ ap (λ b. b && has_from s ts (i + 1)) e

pub has_next : (s : Tree) (ts : List Term) (i : ℕ) (t : Term) → i < length ts → t ≡ get_or ts i t → has_each_of s (tree_of t) ≡ true → has_from s ts i ≡ has_from s ts (i + 1)
has_next s ts i t h is e = has_step s ts i t h is ∙ ap (λ b. b && has_from s ts (i + 1)) e

pub has_end : (s : Tree) (ts : List Term) (i : ℕ) → length ts ≤ i → has_from s ts i ≡ true
has_end s ts i h = ap (λ us. has_each_of_all s (trees_of (tree_list us))) (drop_all i ts h)
