-- How terms stand to each other by the path order, by their heads and arguments.
use Rattle.std.proofs.Common.{◌≡◌, ℕ, Bool, true, false, ◌==◌, List, [], ◌∷◌, ◌++◌, length, refl, sym, ap, subst, ◌∙◌, arith}
use Rattle.std.proofs.lemmas.Bool.{eq-eqb, eqb-true, ne_eqb}
use Rattle.fol_core.specs.TermView.{tree_of, tree_list}
use Rattle.fol_core.specs.Tree.{Tree, var, elem, app, Trees, none, more, trees_of}
use Rattle.fol_core.specs.declared.term.Term.{Term}
use Rattle.held_clauses.proofs.PathSteps as path
use Rattle.held_clauses.specs.Fronts.{AreLastArguments, DifferFirst}
use Rattle.held_clauses.specs.Ranks.{IsFirst, IsRanked, above_if, same_if}
use Rattle.substitutions.specs.Occurring.{has_variable}
use Rattle.substitutions.proofs.Composing.{arguments_same, first_same, heads_same, others_same}
use Rattle.term_order.proofs.Heads.{rows_order}
use Rattle.term_order.proofs.LpoOrder.{itself}
use Rattle.term_order.specs.Compared.{is_greater_than_each}
use Rattle.term_order.specs.Lpo.{lpo_greater, some_at_least}
use Rattle.term_order.specs.Precedences.{stands_above}
use Rattle.term_order.specs.declared.precedence.SymbolRow.{SymbolRow}
use Rattle.unifiers.specs.Matching.{same_tree}
use Rattle.unifiers.proofs.MatchesFound.{same_itself}

-- terms that aren't the same
above_is : (above : ℕ → ℕ → Bool) (s t : Tree) (b : Bool) → b ≡ lpo_greater above s t → (s ≡ t → ⊥) → IsRanked above s t (above_if b)
above_is above s t true e apart = sym e
above_is above s t false e apart = (sym e, apart)

differ_apart : (s t : Tree) → same_tree s t ≡ false → s ≡ t → ⊥
differ_apart s t d e = let same : same_tree s t ≡ true = ap (λ u. same_tree s u) (sym e) ∙ same_itself s in cc

-- lists of terms that differ behind a front
behind_front : (front us vs : List Tree) → trees_of (front ++ us) ≡ trees_of (front ++ vs) → trees_of us ≡ trees_of vs
behind_front [] us vs e = e
behind_front (t ∷ front) us vs e = behind_front front us vs (others_same t t (trees_of (front ++ us)) (trees_of (front ++ vs)) e)

whole_same : (s t : Tree) (us vs : List Tree) → AreLastArguments s us t vs → s ≡ t → trees_of us ≡ trees_of vs
whole_same s t us vs h e =
    behind_front h.front us vs (arguments_same h.head h.head (trees_of (h.front ++ us)) (trees_of (h.front ++ vs)) (sym h.first ∙ e ∙ h.second))

module _ (rows : List SymbolRow) where
  abbrev above : ℕ → ℕ → Bool
  above = stands_above rows

  apart_if_greater : (s t : Tree) → lpo_greater above s t ≡ true → s ≡ t → ⊥
  apart_if_greater s t h e = let no : lpo_greater above s t ≡ false = ap (lpo_greater above s) (sym e) ∙ itself above (rows_order rows) s in cc

  -- without arguments
  pub variables : (x y : ℕ) → IsRanked above (var x) (var y) (same_if (x == y))
  variables x y = by (x == y) refl
    where
      by : (b : Bool) → (x == y) ≡ b → IsRanked above (var x) (var y) (same_if b)
      by true e = ap var (eqb-true x y e)
      by false e = (refl, (λ same. let is : x ≡ y = cc in let yes : (x == y) ≡ true = eq-eqb x y is in cc))

  pub elements : (k n : ℕ) → IsRanked above (elem k) (elem n) (same_if (k == n))
  elements k n = by (k == n) refl
    where
      by : (b : Bool) → (k == n) ≡ b → IsRanked above (elem k) (elem n) (same_if b)
      by true e = ap elem (eqb-true k n e)
      by false e = (refl, (λ same. let is : k ≡ n = cc in let yes : (k == n) ≡ true = eq-eqb k n is in cc))

  pub over_variable : (f y : ℕ) (ss : Trees) (b : Bool) → b ≡ has_variable y (app f ss) → IsRanked above (app f ss) (var y) (above_if b)
  over_variable f y ss b e = above_is above (app f ss) (var y) b e (λ same. cc)

  pub over_element : (f k : ℕ) (ss : Trees) (b : Bool) → b ≡ some_at_least above ss (elem k) → IsRanked above (app f ss) (elem k) (above_if b)
  over_element f k ss b e = above_is above (app f ss) (elem k) b e (λ same. cc)

  -- heads that differ
  pub over_heads : (s t : Tree) (f g : ℕ) (ss ts : List Tree) (b : Bool) → s ≡ app f (trees_of ss) → t ≡ app g (trees_of ts) → (f ≡ g → ⊥) → above f g ≡ true → b ≡ is_greater_than_each (lpo_greater above) s ts
      → IsRanked above s t (above_if b)
  over_heads s t f g ss ts b is was other h e =
      above_is above s t b (e ∙ path.above_heads rows s t f g ss ts is was h) (λ same. other (heads_same f g (trees_of ss) (trees_of ts) (sym is ∙ same ∙ was)))

  pub under_heads : (s t : Tree) (f g : ℕ) (ss ts : List Tree) (b : Bool) → s ≡ app f (trees_of ss) → t ≡ app g (trees_of ts) → (f ≡ g → ⊥) → above f g ≡ false → b ≡ some_at_least above (trees_of ss) t
      → IsRanked above s t (above_if b)
  under_heads s t f g ss ts b is was other h e =
      above_is above s t b (e ∙ path.below_heads rows s t f g ss ts is was h (ne_eqb f g other)) (λ same. other (heads_same f g (trees_of ss) (trees_of ts) (sym is ∙ same ∙ was)))

  -- the first of what is left
  pub not_first : (ss : List Term) (vs : List Tree) (b : Bool) → length ss ≡ 0 → IsFirst above (tree_list ss) vs b
  not_first [] vs b e = tt
  not_first (s ∷ ss) vs b e = absurd (omega (arith, e))

  pub not_second : (us : List Tree) (ts : List Term) (b : Bool) → length ts ≡ 0 → IsFirst above us (tree_list ts) b
  not_second [] [] b e = tt
  not_second (u ∷ us) [] b e = tt
  not_second us (t ∷ ts) b e = absurd (omega (arith, e))

  pub first_is : (ss ts us vs : List Term) (s t : Term) (b : Bool) → ss ≡ s ∷ us → ts ≡ t ∷ vs → b ≡ lpo_greater above (tree_of s) (tree_of t) → IsFirst above (tree_list ss) (tree_list ts) b
  first_is ss ts us vs s t b is was e = subst (λ xs. IsFirst above (tree_list xs) (tree_list ts) b) (sym is) (subst (λ ys. IsFirst above (tree_list (s ∷ us)) (tree_list ys) b) (sym was) e)

  pub other_greater : (s t : Tree) → lpo_greater above s t ≡ true → s ≡ t → ⊥
  other_greater s t h = apart_if_greater s t h

  -- one head
  pub no_more : (s t : Tree) (us vs : List Term) → length us ≡ 0 → AreLastArguments s (tree_list us) t (tree_list vs) → IsRanked above s t (same_if (length vs == 0))
  no_more s t [] [] e h = h.first ∙ sym h.second
  no_more s t [] (v ∷ vs) e h =
      subst (λ b. IsRanked above s t (same_if b)) (sym (ne_eqb (length (v ∷ vs)) 0 (λ e. absurd (omega (arith, e)))))
      (sym (path.behind_none rows s t [] (v ∷ vs) refl h), (λ same. let tail : none ≡ more (tree_of v) (trees_of (tree_list vs)) = whole_same s t [] (tree_list (v ∷ vs)) h same in cc))
  no_more s t (u ∷ us) vs e h = absurd (omega (arith, e))

  pub behind_short : (s t : Tree) (us vs left : List Term) (a : Term) (b : Bool) → us ≡ a ∷ left → length vs ≡ 0 → AreLastArguments s (tree_list us) t (tree_list vs) → b ≡ some_at_least above (trees_of (tree_list us)) t
      → IsRanked above s t (above_if b)
  behind_short s t us [] left a b is e h some =
      above_is above s t b (some ∙ path.behind_short rows s t us [] refl h)
      (λ same. let tail : more (tree_of a) (trees_of (tree_list left)) ≡ none = ap (λ xs. trees_of (tree_list xs)) (sym is) ∙ whole_same s t (tree_list us) [] h same in cc)
  behind_short s t us (v ∷ vs) left a b is e h some = absurd (omega (arith, e))

  last_apart : (s t : Tree) (us vs left right : List Term) (a b : Term) → us ≡ a ∷ left → vs ≡ b ∷ right → AreLastArguments s (tree_list us) t (tree_list vs) → s ≡ t → ⊥
  last_apart s t us vs left right a b is was h same =
      let differ : same_tree (tree_of a) (tree_of b) ≡ false = subst (λ ys. DifferFirst (tree_list (a ∷ left)) (tree_list ys)) was (subst (λ xs. DifferFirst (tree_list xs) (tree_list vs)) is h.differ) in
      differ_apart (tree_of a) (tree_of b) differ
      (first_same (tree_of a) (tree_of b) (trees_of (tree_list left)) (trees_of (tree_list right))
      (ap (λ xs. trees_of (tree_list xs)) (sym is) ∙ whole_same s t (tree_list us) (tree_list vs) h same ∙ ap (λ ys. trees_of (tree_list ys)) was))

  first_there : (us vs left right : List Term) (a b : Term) (g : Bool) → us ≡ a ∷ left → vs ≡ b ∷ right → IsFirst above (tree_list us) (tree_list vs) g → g ≡ lpo_greater above (tree_of a) (tree_of b)
  first_there us vs left right a b g is was h = subst (λ ys. IsFirst above (tree_list (a ∷ left)) (tree_list ys) g) was (subst (λ xs. IsFirst above (tree_list xs) (tree_list vs) g) is h)

  pub behind_greater : (s t : Tree) (us vs left right : List Term) (a b : Term) (g r : Bool) → us ≡ a ∷ left → vs ≡ b ∷ right → AreLastArguments s (tree_list us) t (tree_list vs) → IsFirst above (tree_list us) (tree_list vs) g → g ≡ true
      → r ≡ is_greater_than_each (lpo_greater above) s (tree_list right) → IsRanked above s t (above_if r)
  behind_greater s t us vs left right a b g r is was h first so e =
      above_is above s t r (e ∙ path.behind_greater rows s t us vs left right a b is was h (sym (first_there us vs left right a b g is was first) ∙ so)) (last_apart s t us vs left right a b is was h)

  pub behind_other : (s t : Tree) (us vs left right : List Term) (a b : Term) (g r : Bool) → us ≡ a ∷ left → vs ≡ b ∷ right → AreLastArguments s (tree_list us) t (tree_list vs) → IsFirst above (tree_list us) (tree_list vs) g → g ≡ false
      → r ≡ some_at_least above (trees_of (tree_list left)) t → IsRanked above s t (above_if r)
  behind_other s t us vs left right a b g r is was h first so e =
      above_is above s t r (e ∙ path.behind_other rows s t us vs left right a b is was h (sym (first_there us vs left right a b g is was first) ∙ so)) (last_apart s t us vs left right a b is was h)

  pub greater_same : (s t : Tree) → s ≡ t → false ≡ lpo_greater above s t
  greater_same s t e = sym (ap (lpo_greater above s) (sym e) ∙ itself above (rows_order rows) s)
