-- Why one term is greater than another.
use Rattle.std.proofs.Common.{◌≡◌, ℕ, zero, suc, ◌+◌, ◌<◌, ◌≤◌, Bool, true, ◌==◌, ◌&&◌, ◌||◌, ◌⊎◌, inl, inr, refl, ap, ◌∙◌, eq-eqb, eqb-true, arith}
use Rattle.fol_core.specs.Tree.{Tree, var, elem, app, Trees, none, more, nodes, nodes_of}
use Rattle.substitutions.specs.Occurring.{has_variable, have_variable}
use Rattle.unifiers.specs.Matching.{same_tree}
use Rattle.unifiers.proofs.MatchesFound.{tree_same}
use Rattle.term_order.specs.Lpo.{lpo_greater, some_at_least, first_greater, greater_each}
use Rattle.term_order.proofs.Tests.{split_or, split_and, left_or, right_or, both_and, same_from}

module _ (above : ℕ → ℕ → Bool) where
  abbrev pub Greater : Tree → Tree → Type 0
  Greater s t = lpo_greater above s t ≡ true

  -- an argument is greater or the same
  abbrev pub SomeAtLeast : Trees → Tree → Type 0
  SomeAtLeast ss t = some_at_least above ss t ≡ true

  abbrev pub FirstGreater : Trees → Trees → Type 0
  FirstGreater ss ts = first_greater above ss ts ≡ true

  abbrev pub GreaterEach : ℕ → Trees → Trees → Type 0
  GreaterEach f ss ts = greater_each above f ss (λ u. some_at_least above ss u) (λ us. first_greater above ss us) ts ≡ true

  -- the three reasons
  pub data Why (f : ℕ) (ss : Trees) (g : ℕ) (ts : Trees) : Type 0 where
    by_part : SomeAtLeast ss (app g ts) → Why f ss g ts
    by_head : above f g ≡ true → GreaterEach f ss ts → Why f ss g ts
    by_first : f ≡ g → GreaterEach f ss ts → FirstGreater ss ts → Why f ss g ts

  pub why : (f : ℕ) (ss : Trees) (g : ℕ) (ts : Trees) → Greater (app f ss) (app g ts) → Why f ss g ts
  why f ss g ts h = elim (split_or (some_at_least above ss (app g ts)) _ h) [
    | inl p ↦ by_part p
    | inr q ↦ elim (split_or (above f g && each) (f == g && (each && first_greater above ss ts)) q) [
      | inl r ↦ let p = split_and (above f g) each r in by_head p.0 p.1
      | inr r ↦ let p = split_and (f == g) (each && first_greater above ss ts) r in
          let q = split_and each (first_greater above ss ts) p.1 in
          by_first (eqb-true f g p.0) q.0 q.1
    ]
  ]
    where
      each : Bool
      each = greater_each above f ss (λ u. some_at_least above ss u) (λ us. first_greater above ss us) ts

  pub because : (f : ℕ) (ss : Trees) (g : ℕ) (ts : Trees) → Why f ss g ts → Greater (app f ss) (app g ts)
  because f ss g ts (by_part p) = left_or (some_at_least above ss (app g ts)) _ p
  because f ss g ts (by_head a e) = right_or (some_at_least above ss (app g ts)) _ (left_or _ _ (both_and (above f g) _ a e))
  because f ss g ts (by_first i e l) = right_or (some_at_least above ss (app g ts)) _ (right_or _ _ (both_and (f == g) _ (eq-eqb f g i) (both_and _ (first_greater above ss ts) e l)))

  -- an argument that is at least a term
  pub data AtLeast (s t : Tree) : Type 0 where
    the_same : s ≡ t → AtLeast s t
    is_greater : Greater s t → AtLeast s t

  pub head_at_least : (s : Tree) (ss : Trees) (t : Tree) → SomeAtLeast (more s ss) t → AtLeast s t ⊎ SomeAtLeast ss t
  head_at_least s ss t h = elim (split_or (same_tree s t || lpo_greater above s t) (some_at_least above ss t) h) [
    | inl p ↦ elim (split_or (same_tree s t) (lpo_greater above s t) p) [ inl e ↦ inl (the_same (tree_same s t e)) | inr g ↦ inl (is_greater g) ]
    | inr q ↦ inr q
  ]

  pub at_least_here : (s : Tree) (ss : Trees) (t : Tree) → AtLeast s t → SomeAtLeast (more s ss) t
  at_least_here s ss t (the_same e) = left_or (same_tree s t || lpo_greater above s t) (some_at_least above ss t) (left_or (same_tree s t) (lpo_greater above s t) (same_from s t e))
  at_least_here s ss t (is_greater g) = left_or (same_tree s t || lpo_greater above s t) (some_at_least above ss t) (right_or (same_tree s t) (lpo_greater above s t) g)

  pub at_least_behind : (s : Tree) (ss : Trees) (t : Tree) → SomeAtLeast ss t → SomeAtLeast (more s ss) t
  at_least_behind s ss t h = right_or (same_tree s t || lpo_greater above s t) (some_at_least above ss t) h

  -- what some argument is at least, the application is greater than
  variable_in : (s : Tree) (y : ℕ) → AtLeast s (var y) → has_variable y s ≡ true
  variable_in (var x) y (the_same e) = ap (has_variable y) e ∙ eq-eqb y y refl
  variable_in (elem k) y (the_same e) = cc
  variable_in (app f ss) y (the_same e) = cc
  variable_in (var x) y (is_greater g) = cc
  variable_in (elem k) y (is_greater g) = cc
  variable_in (app f ss) y (is_greater g) = g

  pub variables_in : (ss : Trees) (y : ℕ) → SomeAtLeast ss (var y) → have_variable y ss ≡ true
  variables_in none y h = cc
  variables_in (more s ss) y h = elim (head_at_least s ss (var y) h) [
    | inl a ↦ left_or (has_variable y s) (have_variable y ss) (variable_in s y a)
    | inr r ↦ right_or (has_variable y s) (have_variable y ss) (variables_in ss y r)
  ]

  pub by_argument : (f : ℕ) (ss : Trees) (t : Tree) → SomeAtLeast ss t → Greater (app f ss) t
  by_argument f ss (var y) h = variables_in ss y h
  by_argument f ss (elem k) h = h
  by_argument f ss (app g ts) h = because f ss g ts (by_part h)

  -- what is greater has the variables
  keeps_in_some : (t : Tree) (x : ℕ) (ss : Trees) → ((s : Tree) → nodes s ≤ nodes_of ss → Greater s t → has_variable x s ≡ true)
      → SomeAtLeast ss t → has_variable x t ≡ true → have_variable x ss ≡ true
  keeps_in_some t x none on p h = cc
  keeps_in_some t x (more s ss) on p h = elim (head_at_least s ss t p) [
    | inl a ↦ left_or (has_variable x s) (have_variable x ss) (elim a [
      | the_same e ↦ ap (has_variable x) e ∙ h
      | is_greater g ↦ on s (omega arith) g
    ])
    | inr r ↦ right_or (has_variable x s) (have_variable x ss) (keeps_in_some t x ss (λ u b g. on u (omega (arith, b)) g) r h)
  ]

  keeps_in_each : (f : ℕ) (ss : Trees) (x : ℕ) (ts : Trees) → ((t : Tree) → nodes t ≤ nodes_of ts → Greater (app f ss) t → has_variable x t ≡ true → have_variable x ss ≡ true)
      → GreaterEach f ss ts → have_variable x ts ≡ true → have_variable x ss ≡ true
  keeps_in_each f ss x none on e h = cc
  keeps_in_each f ss x (more t ts) on e h =
      let p = split_and (lpo_greater above (app f ss) t) _ e in
      elim (split_or (has_variable x t) (have_variable x ts) h) [
        | inl i ↦ on t (omega arith) p.0 i
        | inr i ↦ keeps_in_each f ss x ts (λ u b g j. on u (omega (arith, b)) g j) p.1 i
      ]

  keeps_by : (n : ℕ) (s t : Tree) (x : ℕ) → nodes s + nodes t < n → Greater s t → has_variable x t ≡ true → has_variable x s ≡ true
  keeps_by zero s t x b g h = let no_fuel : ⊥ = omega (arith, b) in elim no_fuel [ ]
  keeps_by (suc n) (var y) t x b g h = cc
  keeps_by (suc n) (elem k) t x b g h = cc
  keeps_by (suc n) (app f ss) (var y) x b g h = ap (λ m. have_variable m ss) (eqb-true x y h) ∙ g
  keeps_by (suc n) (app f ss) (elem k) x b g h = cc
  keeps_by (suc n) (app f ss) (app h ts) x b g i =
      let some = λ (s : Tree) (c : nodes s ≤ nodes_of ss) (k : Greater s (app h ts)). keeps_by n s (app h ts) x (omega (arith, b, c)) k i in
      let each = λ (t : Tree) (c : nodes t ≤ nodes_of ts) (k : Greater (app f ss) t) (j : has_variable x t ≡ true). keeps_by n (app f ss) t x (omega (arith, b, c)) k j in
      elim (why f ss h ts g) [
        | by_part p ↦ keeps_in_some (app h ts) x ss some p i
        | by_head a e ↦ keeps_in_each f ss x ts each e i
        | by_first j e l ↦ keeps_in_each f ss x ts each e i
      ]

  pub keeps_variable : (s t : Tree) (x : ℕ) → Greater s t → has_variable x t ≡ true → has_variable x s ≡ true
  keeps_variable s t x g h = keeps_by (suc (nodes s + nodes t)) s t x (omega arith) g h
