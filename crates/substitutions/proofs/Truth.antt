-- Values and truth of instances.
use Rattle.std.proofs.Common.{◌≡◌, ℕ, Bool, not, ◌==◌, ◌||◌, if◌then◌else◌, List, [], ◌∷◌, refl, ap, ap₂}
use Rattle.fol_core.specs.Tree.{Tree, var, elem, app, Trees, none, more}
use Rattle.fol_core.specs.Literals.{literal, ClauseTree, equality, are_equal, is_true_literal, is_true_clause}
use Rattle.fol_core.specs.Meaning.{Meaning}
use Rattle.fol_core.specs.Substitutions.{Substitution, substitute, substitute_all}
use Rattle.fol_core.specs.Truth.{Assignment, value_of, values_of}
use Rattle.substitutions.specs.Atoms.{IsAtom, AreAtoms}
use Rattle.substitutions.specs.Instances.{substitute_clause, valued}

module _ (m : Meaning) where
  mutual
    -- the value of an instance is the term's under the changed assignment
    pub substitute_value : (e : Assignment) (terms : Substitution) (t : Tree) → value_of m e (substitute terms t) ≡ value_of m (valued m e terms) t
    substitute_value e terms (var x) = refl
    substitute_value e terms (elem k) = refl
    substitute_value e terms (app f ts) = ap (m.function f) (substitute_values e terms ts)

    pub substitute_values : (e : Assignment) (terms : Substitution) (ts : Trees) → values_of m e (substitute_all terms ts) ≡ values_of m (valued m e terms) ts
    substitute_values e terms none = refl
    substitute_values e terms (more t ts) = ap₂ (λ v vs. v ∷ vs) (substitute_value e terms t) (substitute_values e terms ts)

  -- a literal's truth by its arguments' values
  abbrev pub by_values : Bool → ℕ → List ℕ → Bool
  by_values positive r xs =
      let b = if r == equality then are_equal xs else m.relation r xs in
      if positive then b else not b

  pub instance_literal : (e : Assignment) (terms : Substitution) (positive : Bool) (t : Tree) → IsAtom t
      → is_true_literal m e (literal positive (substitute terms t)) ≡ is_true_literal m (valued m e terms) (literal positive t)
  instance_literal e terms positive (var x) h = absurd h
  instance_literal e terms positive (elem k) h = refl
  instance_literal e terms positive (app r ts) h = ap (by_values positive r) (substitute_values e terms ts)

  -- an instance of a clause is true where the clause is under the changed assignment
  pub instance_clause : (e : Assignment) (terms : Substitution) (c : ClauseTree) → AreAtoms c
      → is_true_clause m e (substitute_clause terms c) ≡ is_true_clause m (valued m e terms) c
  instance_clause e terms [] h = refl
  instance_clause e terms (l ∷ c) h = ap₂ (λ a b. a || b) (instance_literal e terms l.positive l.atom h.0) (instance_clause e terms c h.1)
