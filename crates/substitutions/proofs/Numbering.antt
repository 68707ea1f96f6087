-- A clause says the same with its variables numbered anew.
use Rattle.std.proofs.Common.{◌≡◌, ℕ, suc, Bool, true, false, ◌==◌, ◌||◌, if◌then◌else◌, IsTrue, List, [], ◌∷◌, slice_index, Option, Some, None, is_some, unwrap_or, option_map, refl, sym, ap, ap₂, ◌∙◌}
use Rattle.std.proofs.lemmas.Bool.{eqb-true, eq-eqb, false≢true, or_left, or_right}
use Rattle.fol_core.specs.SymbolTable.{first_place}
use Rattle.fol_core.proofs.Places.{first_place-any}
use Rattle.fol_core.specs.Tree.{Tree, var, elem, app, Trees, none, more}
use Rattle.fol_core.specs.Free.{is_in}
use Rattle.fol_core.specs.Literals.{literal, ClauseTree, is_true_literal, is_true_clause, IsTrueClause}
use Rattle.fol_core.specs.Meaning.{Meaning}
use Rattle.fol_core.specs.Truth.{Assignment, value_of, values_of}
use Rattle.fol_core.specs.Renumbered.{clause_variables, place_in, renumbered}
use Rattle.fol_core.specs.Substitutions.{substitute}
use Rattle.substitutions.specs.Instances.{substitute_clause}
use Rattle.substitutions.specs.Occurring.{has_variable, have_variable, occurs_in_clause}
use Rattle.substitutions.proofs.Composing.{clause_listed}
use Rattle.substitutions.proofs.Truth.{substitute_values, by_values}

-- the number at its place
pub at_place : (xs : List ℕ) (x : ℕ) → IsTrue (is_in x xs) → slice_index xs (place_in xs x) ≡ x
at_place [] x i = absurd (false≢true i)
at_place (y ∷ ys) x i = by (x == y) refl (first_place (λ z. x == z) ys) refl (at_place ys x)
  where
    by : (b : Bool) → (x == y) ≡ b → (o : Option ℕ) → first_place (λ z. x == z) ys ≡ o → (IsTrue (is_in x ys) → slice_index ys (place_in ys x) ≡ x)
        → slice_index (y ∷ ys) (unwrap_or (if b then Some 0 else option_map suc o) 0) ≡ x
    by true e o is rest = sym (eqb-true x y e)
    by false e None is rest = absurd (false≢true (ap is_some (sym is) ∙ first_place-any (λ z. x == z) ys ∙ sym (ap (λ b. b || is_in x ys) e) ∙ i))
    by false e (Some n) is rest = ap (λ o. slice_index ys (unwrap_or o 0)) (sym is) ∙ rest (sym (ap (λ b. b || is_in x ys) e) ∙ i)

module _ (m : Meaning) where
  mutual
    -- assignments that agree on the variables give one value
    pub alike_term : (d e : Assignment) (t : Tree) → ((x : ℕ) → IsTrue (has_variable x t) → d x ≡ e x) → value_of m d t ≡ value_of m e t
    alike_term d e (var x) h = h x (eq-eqb x x refl)
    alike_term d e (elem k) h = refl
    alike_term d e (app f ts) h = ap (m.function f) (alike_terms d e ts h)

    pub alike_terms : (d e : Assignment) (ts : Trees) → ((x : ℕ) → IsTrue (have_variable x ts) → d x ≡ e x) → values_of m d ts ≡ values_of m e ts
    alike_terms d e none h = refl
    alike_terms d e (more t ts) h = ap₂ (λ v vs. v ∷ vs)
        (alike_term d e t (λ x i. h x (or_left (has_variable x t) (have_variable x ts) i)))
        (alike_terms d e ts (λ x i. h x (or_right (has_variable x t) (have_variable x ts) i)))

  pub alike_literal : (d e : Assignment) (positive : Bool) (t : Tree) → ((x : ℕ) → IsTrue (has_variable x t) → d x ≡ e x)
      → is_true_literal m d (literal positive t) ≡ is_true_literal m e (literal positive t)
  alike_literal d e positive (var x) h = refl
  alike_literal d e positive (elem k) h = refl
  alike_literal d e positive (app r ts) h = ap (by_values m positive r) (alike_terms d e ts h)

  pub alike_clause : (d e : Assignment) (c : ClauseTree) → ((x : ℕ) → IsTrue (occurs_in_clause x c) → d x ≡ e x) → is_true_clause m d c ≡ is_true_clause m e c
  alike_clause d e [] h = refl
  alike_clause d e (l ∷ c) h = ap₂ (λ a b. a || b)
      (alike_literal d e l.positive l.atom (λ x i. h x (or_left (has_variable x l.atom) (occurs_in_clause x c) i)))
      (alike_clause d e c (λ x i. h x (or_right (has_variable x l.atom) (occurs_in_clause x c) i)))

  renamed_literal : (e : Assignment) (p : ℕ → ℕ) (positive : Bool) (t : Tree)
      → is_true_literal m e (literal positive (substitute (λ x. var (p x)) t)) ≡ is_true_literal m (λ x. e (p x)) (literal positive t)
  renamed_literal e p positive (var x) = refl
  renamed_literal e p positive (elem k) = refl
  renamed_literal e p positive (app r ts) = ap (by_values m positive r) (substitute_values m e (λ x. var (p x)) ts)

  -- variables put in for variables
  pub renamed_clause : (e : Assignment) (p : ℕ → ℕ) (c : ClauseTree) → is_true_clause m e (substitute_clause (λ x. var (p x)) c) ≡ is_true_clause m (λ x. e (p x)) c
  renamed_clause e p [] = refl
  renamed_clause e p (l ∷ c) = ap₂ (λ a b. a || b) (renamed_literal e p l.positive l.atom) (renamed_clause e p c)

  pub renumbered_true : (c : ClauseTree) → IsTrueClause m c → IsTrueClause m (renumbered c)
  renumbered_true c h e w = renamed_clause e (place_in (clause_variables c)) c ∙ h (λ x. e (place_in (clause_variables c) x)) (λ x. w (place_in (clause_variables c) x))

  pub true_renumbered : (c : ClauseTree) → IsTrueClause m (renumbered c) → IsTrueClause m c
  true_renumbered c h e w =
      let d = λ (n : ℕ). e (slice_index (clause_variables c) n) in
      sym (alike_clause (λ x. d (place_in (clause_variables c) x)) e c (λ x i. ap e (at_place (clause_variables c) x (sym (clause_listed x c) ∙ i))))
      ∙ sym (renamed_clause d (place_in (clause_variables c)) c) ∙ h d (λ n. w (slice_index (clause_variables c) n))
