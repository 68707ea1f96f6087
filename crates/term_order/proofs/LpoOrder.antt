-- The path order is an order.
use Rattle.std.proofs.Common.{◌≡◌, ℕ, zero, suc, ◌+◌, ◌<◌, ◌≤◌, Bool, true, false, if◌then◌else◌, ◌⊎◌, inl, inr, refl, sym, ap, subst, ◌∙◌, arith}
use Rattle.fol_core.specs.Tree.{Tree, var, elem, app, Trees, none, more, nodes, nodes_of}
use Rattle.term_order.specs.Laws.{IsSymbolOrder}
use Rattle.unifiers.specs.Matching.{same_tree}
use Rattle.unifiers.proofs.MatchesFound.{tree_same, same_itself}
use Rattle.term_order.specs.Lpo.{lpo_greater, first_greater}
use Rattle.term_order.proofs.Tests.{split_and, both_and, same_from}
use Rattle.term_order.proofs.LpoParts.{Greater, SomeAtLeast, FirstGreater, GreaterEach, by_part, by_head, by_first, why, because, the_same, is_greater, head_at_least, at_least_here, at_least_behind, by_argument, keeps_variable}

module _ (above : ℕ → ℕ → Bool) (order : IsSymbolOrder above) where
  -- what is greater than each term behind
  some_onward : (t u : Tree) (ss : Trees) → ((s : Tree) → nodes s ≤ nodes_of ss → Greater above s t → Greater above s u)
      → Greater above t u → SomeAtLeast above ss t → SomeAtLeast above ss u
  some_onward t u none on g h = cc
  some_onward t u (more s ss) on g h = elim (head_at_least above s ss t h) [
    | inl a ↦ at_least_here above s ss u (is_greater (elim a [
      | the_same e ↦ subst (λ x. Greater above x u) (sym e) g
      | is_greater k ↦ on s (omega arith) k
    ]))
    | inr r ↦ at_least_behind above s ss u (some_onward t u ss (λ x b k. on x (omega (arith, b)) k) g r)
  ]

  each_onward : (f : ℕ) (ss : Trees) (g : ℕ) (ts : Trees) (us : Trees) → ((u : Tree) → nodes u ≤ nodes_of us → Greater above (app g ts) u → Greater above (app f ss) u)
      → GreaterEach above g ts us → GreaterEach above f ss us
  each_onward f ss g ts none on h = refl
  each_onward f ss g ts (more u us) on h =
      let p = split_and (lpo_greater above (app g ts) u) _ h in
      both_and (lpo_greater above (app f ss) u) _ (on u (omega arith) p.0) (each_onward f ss g ts us (λ x b k. on x (omega (arith, b)) k) p.1)

  some_below : (f : ℕ) (ss : Trees) (u : Tree) (ts : Trees) → ((t : Tree) → nodes t ≤ nodes_of ts → Greater above (app f ss) t → Greater above t u → Greater above (app f ss) u)
      → GreaterEach above f ss ts → SomeAtLeast above ts u → Greater above (app f ss) u
  some_below f ss u none on e h = cc
  some_below f ss u (more t ts) on e h =
      let p = split_and (lpo_greater above (app f ss) t) _ e in
      elim (head_at_least above t ts u h) [
        | inl a ↦ elim a [
          | the_same i ↦ subst (λ x. Greater above (app f ss) x) i p.0
          | is_greater k ↦ on t (omega arith) p.0 k
        ]
        | inr r ↦ some_below f ss u ts (λ x b k l. on x (omega (arith, b)) k l) p.1 r
      ]

  -- among some terms
  abbrev In : Tree → Trees → Type 0
  In t none = ⊥
  In t (more u us) = (t ≡ u) ⊎ In t us

  some_in : (t : Tree) (ts : Trees) → In t ts → SomeAtLeast above ts t
  some_in t none i = elim i [ ]
  some_in t (more u us) i = elim i [
    | inl e ↦ at_least_here above u us t (the_same (sym e))
    | inr j ↦ at_least_behind above u us t (some_in t us j)
  ]

  each_in : (f : ℕ) (ss : Trees) (t : Tree) (ts : Trees) → In t ts → GreaterEach above f ss ts → Greater above (app f ss) t
  each_in f ss t none i e = elim i [ ]
  each_in f ss t (more u us) i e =
      let p = split_and (lpo_greater above (app f ss) u) _ e in
      elim i [ inl q ↦ subst (Greater above (app f ss)) (sym q) p.0 | inr j ↦ each_in f ss t us j p.1 ]

  -- what is greater than an application is greater than its arguments
  mutual
    below_arguments : (s : Tree) (g : ℕ) (ts : Trees) (t : Tree) → In t ts → Greater above s (app g ts) → Greater above s t
    below_arguments (var x) g ts t i h = cc
    below_arguments (elem k) g ts t i h = cc
    below_arguments (app f ss) g ts t i h = elim (why above f ss g ts h) [
      | by_part p ↦ by_argument above f ss t (some_below_arguments ss g ts t i p)
      | by_head a e ↦ each_in f ss t ts i e
      | by_first j e l ↦ each_in f ss t ts i e
    ]

    some_below_arguments : (ss : Trees) (g : ℕ) (ts : Trees) (t : Tree) → In t ts → SomeAtLeast above ss (app g ts) → SomeAtLeast above ss t
    some_below_arguments none g ts t i p = cc
    some_below_arguments (more s ss) g ts t i p = elim (head_at_least above s ss (app g ts) p) [
      | inl a ↦ at_least_here above s ss t (is_greater (elim a [
        | the_same e ↦ subst (λ x. Greater above x t) (sym e) (by_argument above g ts t (some_in t ts i))
        | is_greater k ↦ below_arguments s g ts t i k
      ]))
      | inr r ↦ at_least_behind above s ss t (some_below_arguments ss g ts t i r)
    ]

  -- no term is greater than itself
  first_not_itself : (ss : Trees) → FirstGreater above ss ss → ⊥
  first_not_itself none h = cc
  first_not_itself (more s ss) h = first_not_itself ss (by (same_tree s s) (same_itself s) h)
    where
      by : (b : Bool) → b ≡ true → (if b then first_greater above ss ss else lpo_greater above s s) ≡ true → first_greater above ss ss ≡ true
      by true e h = h
      by false e h = cc

  mutual
    pub not_itself : (t : Tree) → Greater above t t → ⊥
    not_itself (var x) h = cc
    not_itself (elem k) h = cc
    not_itself (app f ss) h = elim (why above f ss f ss h) [
      | by_part p ↦ no_part f ss ss (λ u i. i) (omega arith) p
      | by_head a e ↦ (let no : above f f ≡ false = order.irreflexive f in cc)
      | by_first i e l ↦ first_not_itself ss l
    ]

    no_part : (f : ℕ) (ss rest : Trees) → ((u : Tree) → In u rest → In u ss) → nodes_of rest ≤ nodes_of ss → SomeAtLeast above rest (app f ss) → ⊥
    no_part f ss none inside less p = cc
    no_part f ss (more s rest) inside less p = elim (head_at_least above s rest (app f ss) p) [
      | inl a ↦ elim a [
        | the_same e ↦ (let size : nodes s ≡ nodes_of ss + 2 = ap nodes e in omega (arith, size, less))
        | is_greater k ↦ not_itself s (below_arguments s f ss s (inside s (inl refl)) k)
      ]
      | inr r ↦ no_part f ss rest (λ u i. inside u (inr i)) (omega (arith, less)) r
    ]

  first_onward : (ss ts us : Trees) → ((s t u : Tree) → nodes s + nodes t + nodes u ≤ nodes_of ss + nodes_of ts + nodes_of us → Greater above s t → Greater above t u → Greater above s u)
      → FirstGreater above ss ts → FirstGreater above ts us → FirstGreater above ss us
  first_onward none ts us on h k = cc
  first_onward (more s ss) none us on h k = cc
  first_onward (more s ss) (more t ts) none on h k = cc
  first_onward (more s ss) (more t ts) (more u us) on h k =
      by (first_onward ss ts us (λ x y z b. on x y z (omega (arith, b)))) (same_tree s t) refl (same_tree t u) refl (same_tree s u) refl h k
    where
      by : (FirstGreater above ss ts → FirstGreater above ts us → FirstGreater above ss us) → (a : Bool) → same_tree s t ≡ a → (b : Bool) → same_tree t u ≡ b → (c : Bool) → same_tree s u ≡ c
          → (if a then first_greater above ss ts else lpo_greater above s t) ≡ true
          → (if b then first_greater above ts us else lpo_greater above t u) ≡ true
          → (if c then first_greater above ss us else lpo_greater above s u) ≡ true
      by rest true i true j true l h k = rest h k
      by rest true i true j false l h k = (let e = same_from s u (tree_same s t i ∙ tree_same t u j) in cc)
      by rest true i false j true l h k = (let e = same_from t u (sym (tree_same s t i) ∙ tree_same s u l) in cc)
      by rest true i false j false l h k = subst (λ x. Greater above x u) (sym (tree_same s t i)) k
      by rest false i true j true l h k = (let e = same_from s t (tree_same s u l ∙ sym (tree_same t u j)) in cc)
      by rest false i true j false l h k = subst (Greater above s) (tree_same t u j) h
      by rest false i false j true l h k = (let size : nodes s ≡ nodes u = ap nodes (tree_same s u l) in elim (not_itself s (on s t s (omega (arith, size)) h (subst (Greater above t) (sym (tree_same s u l)) k))) [ ])
      by rest false i false j false l h k = on s t u (omega arith) h k

  -- transitive
  onward_by : (n : ℕ) (s t u : Tree) → nodes s + nodes t + nodes u < n → Greater above s t → Greater above t u → Greater above s u
  onward_by zero s t u b h k = (let no_fuel : ⊥ = omega (arith, b) in elim no_fuel [ ])
  onward_by (suc n) (var x) t u b h k = cc
  onward_by (suc n) (elem j) t u b h k = cc
  onward_by (suc n) (app f ss) (var y) u b h k = cc
  onward_by (suc n) (app f ss) (elem j) u b h k = cc
  onward_by (suc n) (app f ss) (app g ts) (var y) b h k = keeps_variable above (app f ss) (app g ts) y h k
  onward_by (suc n) (app f ss) (app g ts) (elem j) b h k = elim (why above f ss g ts h) [
    | by_part p ↦ by_argument above f ss (elem j) (some_onward (app g ts) (elem j) ss (λ s c l. onward_by n s (app g ts) (elem j) (omega (arith, b, c)) l k) k p)
    | by_head a e ↦ some_below f ss (elem j) ts (λ t c l m. onward_by n (app f ss) t (elem j) (omega (arith, b, c)) l m) e k
    | by_first i e l ↦ some_below f ss (elem j) ts (λ t c l m. onward_by n (app f ss) t (elem j) (omega (arith, b, c)) l m) e k
  ]
  onward_by (suc n) (app f ss) (app g ts) (app r us) b h k =
      let part = λ (p : SomeAtLeast above ss (app g ts)). by_argument above f ss (app r us) (some_onward (app g ts) (app r us) ss (λ s c l. onward_by n s (app g ts) (app r us) (omega (arith, b, c)) l k) k p) in
      let under = λ (e : GreaterEach above f ss ts) (q : SomeAtLeast above ts (app r us)). some_below f ss (app r us) ts (λ t c l m. onward_by n (app f ss) t (app r us) (omega (arith, b, c)) l m) e q in
      let each = λ (e : GreaterEach above g ts us). each_onward f ss g ts us (λ u c l. onward_by n (app f ss) (app g ts) u (omega (arith, b, c)) h l) e in
      elim (why above f ss g ts h) [
        | by_part p ↦ part p
        | by_head a e ↦ elim (why above g ts r us k) [
          | by_part q ↦ under e q
          | by_head c d ↦ because above f ss r us (by_head (order.transitive f g r a c) (each d))
          | by_first i d l ↦ because above f ss r us (by_head (ap (above f) (sym i) ∙ a) (each d))
        ]
        | by_first i e l ↦ elim (why above g ts r us k) [
          | by_part q ↦ under e q
          | by_head c d ↦ because above f ss r us (by_head (ap (λ x. above x r) i ∙ c) (each d))
          | by_first j d m ↦ because above f ss r us (by_first (i ∙ j) (each d) (first_onward ss ts us (λ x y z w. onward_by n x y z (omega (arith, b, w))) l m))
        ]
      ]

  pub onward : (s t u : Tree) → Greater above s t → Greater above t u → Greater above s u
  onward s t u h k = onward_by (suc (nodes s + nodes t + nodes u)) s t u (omega arith) h k

  pub itself : (t : Tree) → lpo_greater above t t ≡ false
  itself t = by (lpo_greater above t t) refl
    where
      by : (b : Bool) → lpo_greater above t t ≡ b → lpo_greater above t t ≡ false
      by false e = e
      by true e = elim (not_itself t e) [ ]
