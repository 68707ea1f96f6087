-- Instances are ordered as their terms are.
use Rattle.std.proofs.Common.{◌≡◌, ℕ, zero, suc, ◌+◌, ◌<◌, ◌≤◌, Bool, true, false, if◌then◌else◌, inl, inr, refl, sym, ap, subst, eqb-true, arith}
use Rattle.fol_core.specs.Substitutions.{Substitution, substitute, substitute_all}
use Rattle.fol_core.specs.Tree.{Tree, var, elem, app, Trees, none, more, nodes, nodes_of}
use Rattle.substitutions.specs.Occurring.{has_variable, have_variable}
use Rattle.term_order.specs.Laws.{IsSymbolOrder}
use Rattle.unifiers.specs.Matching.{same_tree}
use Rattle.unifiers.proofs.MatchesFound.{tree_same}
use Rattle.term_order.specs.Lpo.{lpo_greater, first_greater}
use Rattle.term_order.proofs.Tests.{split_or, split_and, both_and, same_from}
use Rattle.term_order.proofs.LpoParts.{Greater, SomeAtLeast, FirstGreater, GreaterEach, by_part, by_head, by_first, why, because, AtLeast, the_same, is_greater, head_at_least, at_least_here, at_least_behind, by_argument}
use Rattle.term_order.proofs.LpoOrder.{not_itself}

module _ (above : ℕ → ℕ → Bool) (order : IsSymbolOrder above) (p : Substitution) where
  -- an instance is at least what stands for a variable of its term
  mutual
    at_least_value : (y : ℕ) (t : Tree) → has_variable y t ≡ true → AtLeast above (substitute p t) (p y)
    at_least_value y (var x) h = the_same (ap p (sym (eqb-true y x h)))
    at_least_value y (elem k) h = cc
    at_least_value y (app f ts) h = is_greater (by_argument above f (substitute_all p ts) (p y) (some_value y ts h))

    some_value : (y : ℕ) (ts : Trees) → have_variable y ts ≡ true → SomeAtLeast above (substitute_all p ts) (p y)
    some_value y none h = cc
    some_value y (more t ts) h = elim (split_or (has_variable y t) (have_variable y ts) h) [
      | inl i ↦ at_least_here above (substitute p t) (substitute_all p ts) (p y) (at_least_value y t i)
      | inr i ↦ at_least_behind above (substitute p t) (substitute_all p ts) (p y) (some_value y ts i)
    ]

  some_stays : (t : Tree) (ss : Trees) → ((s : Tree) → nodes s ≤ nodes_of ss → Greater above s t → Greater above (substitute p s) (substitute p t))
      → SomeAtLeast above ss t → SomeAtLeast above (substitute_all p ss) (substitute p t)
  some_stays t none on h = cc
  some_stays t (more s ss) on h = elim (head_at_least above s ss t h) [
    | inl a ↦ at_least_here above (substitute p s) (substitute_all p ss) (substitute p t) (elim a [
      | the_same e ↦ the_same (ap (substitute p) e)
      | is_greater k ↦ is_greater (on s (omega arith) k)
    ])
    | inr r ↦ at_least_behind above (substitute p s) (substitute_all p ss) (substitute p t) (some_stays t ss (λ x b k. on x (omega (arith, b)) k) r)
  ]

  each_stays : (f : ℕ) (ss ts : Trees) → ((t : Tree) → nodes t ≤ nodes_of ts → Greater above (app f ss) t → Greater above (app f (substitute_all p ss)) (substitute p t))
      → GreaterEach above f ss ts → GreaterEach above f (substitute_all p ss) (substitute_all p ts)
  each_stays f ss none on h = refl
  each_stays f ss (more t ts) on h =
      let q = split_and (lpo_greater above (app f ss) t) _ h in
      both_and (lpo_greater above (app f (substitute_all p ss)) (substitute p t)) _ (on t (omega arith) q.0) (each_stays f ss ts (λ x b k. on x (omega (arith, b)) k) q.1)

  first_stays : (ss ts : Trees) → ((s t : Tree) → nodes s + nodes t ≤ nodes_of ss + nodes_of ts → Greater above s t → Greater above (substitute p s) (substitute p t))
      → FirstGreater above ss ts → FirstGreater above (substitute_all p ss) (substitute_all p ts)
  first_stays none ts on h = cc
  first_stays (more s ss) none on h = cc
  first_stays (more s ss) (more t ts) on h =
      by (first_stays ss ts (λ x y b. on x y (omega (arith, b)))) (same_tree s t) refl (same_tree (substitute p s) (substitute p t)) refl h
    where
      by : (FirstGreater above ss ts → FirstGreater above (substitute_all p ss) (substitute_all p ts)) → (a : Bool) → same_tree s t ≡ a
          → (b : Bool) → same_tree (substitute p s) (substitute p t) ≡ b
          → (if a then first_greater above ss ts else lpo_greater above s t) ≡ true
          → (if b then first_greater above (substitute_all p ss) (substitute_all p ts) else lpo_greater above (substitute p s) (substitute p t)) ≡ true
      by rest true i true j h = rest h
      by rest true i false j h = (let e = same_from (substitute p s) (substitute p t) (ap (substitute p) (tree_same s t i)) in cc)
      by rest false i true j h = elim (not_itself above order (substitute p s) (subst (Greater above (substitute p s)) (sym (tree_same (substitute p s) (substitute p t) j)) (on s t (omega arith) h))) [ ]
      by rest false i false j h = on s t (omega arith) h

  stays_by : (n : ℕ) (s t : Tree) → nodes s + nodes t < n → Greater above s t → Greater above (substitute p s) (substitute p t)
  stays_by zero s t b h = (let no_fuel : ⊥ = omega (arith, b) in elim no_fuel [ ])
  stays_by (suc n) (var x) t b h = cc
  stays_by (suc n) (elem k) t b h = cc
  stays_by (suc n) (app f ss) (var y) b h = by_argument above f (substitute_all p ss) (p y) (some_value y ss h)
  stays_by (suc n) (app f ss) (elem k) b h =
      by_argument above f (substitute_all p ss) (elem k) (some_stays (elem k) ss (λ s c l. stays_by n s (elem k) (omega (arith, b, c)) l) h)
  stays_by (suc n) (app f ss) (app g ts) b h =
      let some = λ (q : SomeAtLeast above ss (app g ts)). some_stays (app g ts) ss (λ s c l. stays_by n s (app g ts) (omega (arith, b, c)) l) q in
      let each = λ (q : GreaterEach above f ss ts). each_stays f ss ts (λ t c l. stays_by n (app f ss) t (omega (arith, b, c)) l) q in
      elim (why above f ss g ts h) [
        | by_part q ↦ by_argument above f (substitute_all p ss) (app g (substitute_all p ts)) (some q)
        | by_head a e ↦ because above f (substitute_all p ss) g (substitute_all p ts) (by_head a (each e))
        | by_first i e l ↦ because above f (substitute_all p ss) g (substitute_all p ts) (by_first i (each e) (first_stays ss ts (λ x y c k. stays_by n x y (omega (arith, b, c)) k) l))
      ]

  pub stays : (s t : Tree) → Greater above s t → Greater above (substitute p s) (substitute p t)
  stays s t h = stays_by (suc (nodes s + nodes t)) s t (omega arith) h
