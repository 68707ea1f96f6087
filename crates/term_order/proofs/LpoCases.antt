-- The path order worked out by the heads: each pair of subterms is looked at once at most.
use Rattle.std.proofs.Common.{◌≡◌, ℕ, Bool, true, false, ◌==◌, if◌then◌else◌, List, [], ◌∷◌, ◌++◌, inl, inr, refl, sym, ap, ◌∙◌, subst, eq-eqb, ◌⊎◌}
use Rattle.fol_core.specs.Tree.{Tree, app, Trees, none, more, trees_of}
use Rattle.term_order.specs.Laws.{IsSymbolOrder}
use Rattle.term_order.specs.Lpo.{lpo_greater, some_at_least, first_greater, greater_each}
use Rattle.term_order.proofs.LpoOrder.{onward, not_itself}
use Rattle.term_order.proofs.LpoParts.{Greater, SomeAtLeast, FirstGreater, GreaterEach, by_part, by_head, by_first, why, because, AtLeast, the_same, is_greater, head_at_least, at_least_here, at_least_behind, by_argument}
use Rattle.term_order.proofs.Tests.{split_and, both_and, same_from}
use Rattle.unifiers.specs.Matching.{same_tree}

-- tests that pass in the same cases are the same
pub both_ways : (a b : Bool) → (a ≡ true → b ≡ true) → (b ≡ true → a ≡ true) → a ≡ b
both_ways true b to back = sym (to refl)
both_ways false true to back = back refl
both_ways false false to back = refl

module _ (above : ℕ → ℕ → Bool) (order : IsSymbolOrder above) where
  abbrev pub each : ℕ → Trees → Trees → Bool
  each f ss ts = greater_each above f ss (λ u. some_at_least above ss u) (λ us. first_greater above ss us) ts

  -- what is greater than an application is greater than its arguments
  each_below : (f : ℕ) (ss : Trees) (g : ℕ) (ts us : Trees) → Greater above (app f ss) (app g ts) → ((u : Tree) → SomeAtLeast above us u → SomeAtLeast above ts u)
      → GreaterEach above f ss us
  each_below f ss g ts none h among = refl
  each_below f ss g ts (more u us) h among =
      both_and (lpo_greater above (app f ss) u) _
      (onward above order (app f ss) (app g ts) u h (by_argument above g ts u (among u (at_least_here above u us u (the_same refl)))))
      (each_below f ss g ts us h (λ v i. among v (at_least_behind above u us v i)))

  pub each_part : (f : ℕ) (ss : Trees) (g : ℕ) (ts : Trees) → Greater above (app f ss) (app g ts) → GreaterEach above f ss ts
  each_part f ss g ts h = each_below f ss g ts ts h (λ u i. i)

  -- its head stands above the other's
  pub above_case : (f : ℕ) (ss : Trees) (g : ℕ) (ts : Trees) → above f g ≡ true → lpo_greater above (app f ss) (app g ts) ≡ each f ss ts
  above_case f ss g ts a =
      both_ways (lpo_greater above (app f ss) (app g ts)) (each f ss ts) (λ h. each_part f ss g ts h) (λ e. because above f ss g ts (by_head a e))

  -- it doesn't, and isn't the same
  pub below_case : (f : ℕ) (ss : Trees) (g : ℕ) (ts : Trees) → above f g ≡ false → (f == g) ≡ false
      → lpo_greater above (app f ss) (app g ts) ≡ some_at_least above ss (app g ts)
  below_case f ss g ts a d =
      both_ways (lpo_greater above (app f ss) (app g ts)) (some_at_least above ss (app g ts)) to (λ p. because above f ss g ts (by_part p))
    where
      to : Greater above (app f ss) (app g ts) → SomeAtLeast above ss (app g ts)
      to h = elim (why above f ss g ts h) [
        | by_part p ↦ p
        | by_head b e ↦ cc
        | by_first i e l ↦ (let j = eq-eqb f g i in cc)
      ]

  -- arguments in common, and others behind them
  some_of_common : (ps us : List Tree) (t : Tree) → SomeAtLeast above (trees_of (ps ++ us)) t → SomeAtLeast above (trees_of ps) t ⊎ SomeAtLeast above (trees_of us) t
  some_of_common [] us t h = inr h
  some_of_common (p ∷ ps) us t h = elim (head_at_least above p (trees_of (ps ++ us)) t h) [
    | inl a ↦ inl (at_least_here above p (trees_of ps) t a)
    | inr r ↦ elim (some_of_common ps us t r) [
      | inl i ↦ inl (at_least_behind above p (trees_of ps) t i)
      | inr i ↦ inr i
    ]
  ]

  some_in_common : (ps us : List Tree) (t : Tree) → SomeAtLeast above (trees_of ps) t → SomeAtLeast above (trees_of (ps ++ us)) t
  some_in_common [] us t h = cc
  some_in_common (p ∷ ps) us t h = elim (head_at_least above p (trees_of ps) t h) [
    | inl a ↦ at_least_here above p (trees_of (ps ++ us)) t a
    | inr r ↦ at_least_behind above p (trees_of (ps ++ us)) t (some_in_common ps us t r)
  ]

  some_in_others : (ps us : List Tree) (t : Tree) → SomeAtLeast above (trees_of us) t → SomeAtLeast above (trees_of (ps ++ us)) t
  some_in_others [] us t h = h
  some_in_others (p ∷ ps) us t h = at_least_behind above p (trees_of (ps ++ us)) t (some_in_others ps us t h)

  -- no argument is at least the application
  none_at_least : (f : ℕ) (ts : Trees) → SomeAtLeast above ts (app f ts) → ⊥
  none_at_least f ts h = not_itself above order (app f ts) (by_argument above f ts (app f ts) h)

  common_first : (ps us vs : List Tree) → first_greater above (trees_of (ps ++ us)) (trees_of (ps ++ vs)) ≡ first_greater above (trees_of us) (trees_of vs)
  common_first [] us vs = refl
  common_first (p ∷ ps) us vs =
      ap (λ (b : Bool). if b then first_greater above (trees_of (ps ++ us)) (trees_of (ps ++ vs)) else lpo_greater above p p) (same_from p p refl) ∙ common_first ps us vs

  -- with one head, what isn't decided by the first arguments that differ needs an argument behind those in common
  undecided : (f : ℕ) (ps us vs : List Tree) → first_greater above (trees_of us) (trees_of vs) ≡ false
      → lpo_greater above (app f (trees_of (ps ++ us))) (app f (trees_of (ps ++ vs))) ≡ some_at_least above (trees_of us) (app f (trees_of (ps ++ vs)))
  undecided f ps us vs d =
      both_ways (lpo_greater above (app f (trees_of (ps ++ us))) (app f (trees_of (ps ++ vs)))) (some_at_least above (trees_of us) (app f (trees_of (ps ++ vs)))) to
      (λ i. because above f (trees_of (ps ++ us)) f (trees_of (ps ++ vs)) (by_part (some_in_others ps us (app f (trees_of (ps ++ vs))) i)))
    where
      to : Greater above (app f (trees_of (ps ++ us))) (app f (trees_of (ps ++ vs))) → SomeAtLeast above (trees_of us) (app f (trees_of (ps ++ vs)))
      to h = elim (why above f (trees_of (ps ++ us)) f (trees_of (ps ++ vs)) h) [
        | by_part p ↦ elim (some_of_common ps us (app f (trees_of (ps ++ vs))) p) [
          | inl i ↦ elim (none_at_least f (trees_of (ps ++ vs)) (some_in_common ps vs (app f (trees_of (ps ++ vs))) i)) [ ]
          | inr i ↦ i
        ]
        | by_head b e ↦ (let j = order.irreflexive f in cc)
        | by_first i e l ↦ (let j = common_first ps us vs in cc)
      ]

  pub short_case : (f : ℕ) (ps us : List Tree) → lpo_greater above (app f (trees_of (ps ++ us))) (app f (trees_of (ps ++ []))) ≡ some_at_least above (trees_of us) (app f (trees_of (ps ++ [])))
  short_case f ps us = undecided f ps us [] (by us)
    where
      by : (xs : List Tree) → first_greater above (trees_of xs) (trees_of []) ≡ false
      by [] = refl
      by (x ∷ xs) = refl

  pub long_case : (f : ℕ) (ps vs : List Tree) → lpo_greater above (app f (trees_of (ps ++ []))) (app f (trees_of (ps ++ vs))) ≡ false
  long_case f ps vs = undecided f ps [] vs refl

  -- the first arguments that differ, of which the first isn't greater
  pub other_case : (f : ℕ) (ps : List Tree) (a b : Tree) (us vs : List Tree) → same_tree a b ≡ false → lpo_greater above a b ≡ false
      → lpo_greater above (app f (trees_of (ps ++ a ∷ us))) (app f (trees_of (ps ++ b ∷ vs))) ≡ some_at_least above (trees_of us) (app f (trees_of (ps ++ b ∷ vs)))
  other_case f ps a b us vs d g =
      undecided f ps (a ∷ us) (b ∷ vs) (ap (λ (c : Bool). if c then first_greater above (trees_of us) (trees_of vs) else lpo_greater above a b) d ∙ g)
      ∙ both_ways (some_at_least above (trees_of (a ∷ us)) t) (some_at_least above (trees_of us) t) to (λ i. at_least_behind above a (trees_of us) t i)
    where
      t : Tree
      t = app f (trees_of (ps ++ b ∷ vs))

      part : Greater above t b
      part = by_argument above f (trees_of (ps ++ b ∷ vs)) b (some_in_others ps (b ∷ vs) b (at_least_here above b (trees_of vs) b (the_same refl)))

      never : AtLeast above a t → ⊥
      never (the_same e) = (let i = subst (λ (x : Tree). Greater above x b) (sym e) part in cc)
      never (is_greater k) = (let i = onward above order a t b k part in cc)

      to : SomeAtLeast above (trees_of (a ∷ us)) t → SomeAtLeast above (trees_of us) t
      to h = elim (head_at_least above a (trees_of us) t h) [
        | inl i ↦ elim (never i) [ ]
        | inr i ↦ i
      ]

  -- the first is greater
  each_common : (f : ℕ) (ss : Trees) (ps : List Tree) (ts : Trees) → ((u : Tree) → SomeAtLeast above (trees_of ps) u → SomeAtLeast above ss u) → (vs : List Tree)
      → ts ≡ trees_of (ps ++ vs) → GreaterEach above f ss (trees_of vs) → GreaterEach above f ss ts
  each_common f ss [] ts among vs e h = subst (λ (x : Trees). GreaterEach above f ss x) (sym e) h
  each_common f ss (p ∷ ps) ts among vs e h =
      subst (λ (x : Trees). GreaterEach above f ss x) (sym e)
      (both_and (lpo_greater above (app f ss) p) _ (by_argument above f ss p (among p (at_least_here above p (trees_of ps) p (the_same refl))))
      (each_common f ss ps (trees_of (ps ++ vs)) (λ u i. among u (at_least_behind above p (trees_of ps) u i)) vs refl h))

  each_others : (f : ℕ) (ss : Trees) (ps vs : List Tree) → GreaterEach above f ss (trees_of (ps ++ vs)) → GreaterEach above f ss (trees_of vs)
  each_others f ss [] vs h = h
  each_others f ss (p ∷ ps) vs h = each_others f ss ps vs ((split_and (lpo_greater above (app f ss) p) _ h).1)

  pub greater_case : (f : ℕ) (ps : List Tree) (a b : Tree) (us vs : List Tree) → same_tree a b ≡ false → lpo_greater above a b ≡ true
      → lpo_greater above (app f (trees_of (ps ++ a ∷ us))) (app f (trees_of (ps ++ b ∷ vs))) ≡ each f (trees_of (ps ++ a ∷ us)) (trees_of vs)
  greater_case f ps a b us vs d g =
      both_ways (lpo_greater above (app f ss) (app f ts)) (each f ss (trees_of vs)) (λ h. (split_and (lpo_greater above (app f ss) b) _ (each_others f ss ps (b ∷ vs) (each_part f ss f ts h))).1)
      (λ h. because above f ss f ts (by_first refl (each_common f ss ps ts (λ u i. some_in_common ps (a ∷ us) u i) (b ∷ vs) refl (both_and (lpo_greater above (app f ss) b) _ below h)) first))
    where
      ss : Trees
      ss = trees_of (ps ++ a ∷ us)

      ts : Trees
      ts = trees_of (ps ++ b ∷ vs)

      below : Greater above (app f ss) b
      below = onward above order (app f ss) a b (by_argument above f ss a (some_in_others ps (a ∷ us) a (at_least_here above a (trees_of us) a (the_same refl)))) g

      first : FirstGreater above ss ts
      first = common_first ps (a ∷ us) (b ∷ vs) ∙ ap (λ (c : Bool). if c then first_greater above (trees_of us) (trees_of vs) else lpo_greater above a b) d ∙ g
