-- What the clauses of a negation normal form say.
use Rattle.std.proofs.Common.{◌≡◌, ℕ, Bool, true, false, not, ◌==◌, ◌||◌, ◌&&◌, if◌then◌else◌, IsTrue, List, [], ◌∷◌, refl, sym, ap, ap₂, ◌∙◌}
use Rattle.std.proofs.lemmas.Bool.{eqb-true, eq-eqb, false≢true}
use Rattle.std.proofs.Math.Bool.{or-true, or-false, and-true}
use Rattle.std.proofs.lemmas.List.Folds.{list_any-append, list_all-append}
use Rattle.std.specs.List.{list_all}
use Rattle.fol_core.specs.Tree.{app, none, more}
use Rattle.fol_core.specs.Fol.{Fol, verum, falsum, equal, atom, negation, conjunction, disjunction, implication, equivalence, forall, exists}
use Rattle.fol_core.specs.Bound.{binders_of}
use Rattle.fol_core.specs.Literals.{Lit, literal, ClauseTree, equality, is_true_literal, is_true_clause, are_equal}
use Rattle.fol_core.specs.Meaning.{Meaning}
use Rattle.fol_core.specs.Truth.{Assignment, value_of, values_of, Holds}
use Rattle.clausify.specs.Clausal.{with_each, distributed, literal_clauses}
use Rattle.fol_core.specs.Substitutions.{Substitution, substitute, substitute_all}
use Rattle.substitutions.specs.Instances.{valued}
use Rattle.substitutions.proofs.Truth.{substitute_value, substitute_values}
use Rattle.clausify.proofs.Sets.{Set, plus, also}

-- an atom, none of whose relations has equality's number
abbrev pub IsAtom : Fol → Type 0
IsAtom verum = Unit {0}
IsAtom falsum = Unit {0}
IsAtom (equal s t) = Unit {0}
IsAtom (atom r ts) = (r == equality) ≡ false
IsAtom f = ⊥

-- A negation normal form whose quantifiers bind other variables than those of the set and those around; in "or" no variable is bound
-- on both sides.
abbrev pub IsApart : Set → Fol → Type 0
IsApart u (negation f) = IsAtom f
IsApart u (conjunction f g) = IsApart u f × IsApart u g
IsApart u (disjunction f g) = IsApart (also (binders_of g) u) f × IsApart (also (binders_of f) u) g
IsApart u (forall x f) = (u x ≡ false) × IsApart (plus x u) f
IsApart u (exists x f) = (u x ≡ false) × IsApart (plus x u) f
IsApart u f = IsAtom f

-- assignments with the same elements for the variables of the set
abbrev pub Agree : Set → Assignment → Assignment → Type 0
Agree u d e = (y : ℕ) → IsTrue (u y) → d y ≡ e y

module _ (m : Meaning) where
  abbrev pub all_true : Assignment → List ClauseTree → Bool
  all_true e cs = list_all (is_true_clause m e) cs

  each_true : (e : Assignment) (c : ClauseTree) (ds : List ClauseTree) → all_true e (with_each c ds) ≡ (is_true_clause m e c || all_true e ds)
  each_true e c [] = sym (or-true (is_true_clause m e c))
  each_true e c (d ∷ ds) = ap₂ (λ a b. a && b) (list_any-append (is_true_literal m e) c d) (each_true e c ds) ∙ by (is_true_clause m e c)
    where
      by : (b : Bool) → ((b || is_true_clause m e d) && (b || all_true e ds)) ≡ (b || (is_true_clause m e d && all_true e ds))
      by true = refl
      by false = refl

  -- crossed clauses are true where one of the lists is
  pub crossed_true : (e : Assignment) (cs ds : List ClauseTree) → all_true e (distributed cs ds) ≡ (all_true e cs || all_true e ds)
  crossed_true e [] ds = refl
  crossed_true e (c ∷ cs) ds = list_all-append (is_true_clause m e) (with_each c ds) (distributed cs ds)
      ∙ ap₂ (λ a b. a && b) (each_true e c ds) (crossed_true e cs ds) ∙ by (is_true_clause m e c) (all_true e ds)
    where
      by : (b d : Bool) → ((b || d) && (all_true e cs || d)) ≡ ((b && all_true e cs) || d)
      by true true = refl
      by true false = refl
      by false true = or-true (all_true e cs)
      by false false = refl

  -- what an atom's test says
  abbrev pub test : Assignment → Fol → Bool
  test e verum = true
  test e falsum = false
  test e (equal s t) = value_of m e s == value_of m e t
  test e (atom r ts) = m.relation r (values_of m e ts)
  test e f = false

  pub test_holds : (e : Assignment) (f : Fol) → IsAtom f → IsTrue (test e f) → Holds m e f
  test_holds e verum a h = tt
  test_holds e falsum a h = absurd (false≢true h)
  test_holds e (equal s t) a h = eqb-true (value_of m e s) (value_of m e t) h
  test_holds e (atom r ts) a h = h
  test_holds e (negation f) a h = absurd a
  test_holds e (conjunction f g) a h = absurd a
  test_holds e (disjunction f g) a h = absurd a
  test_holds e (implication f g) a h = absurd a
  test_holds e (equivalence f g) a h = absurd a
  test_holds e (forall x f) a h = absurd a
  test_holds e (exists x f) a h = absurd a

  pub holds_test : (e : Assignment) (f : Fol) → IsAtom f → Holds m e f → IsTrue (test e f)
  holds_test e verum a h = refl
  holds_test e falsum a h = absurd h
  holds_test e (equal s t) a h = eq-eqb (value_of m e s) (value_of m e t) h
  holds_test e (atom r ts) a h = h
  holds_test e (negation f) a h = absurd a
  holds_test e (conjunction f g) a h = absurd a
  holds_test e (disjunction f g) a h = absurd a
  holds_test e (implication f g) a h = absurd a
  holds_test e (equivalence f g) a h = absurd a
  holds_test e (forall x f) a h = absurd a
  holds_test e (exists x f) a h = absurd a

  abbrev pub signed : Bool → Bool → Bool
  signed positive b = if positive then b else not b

  one_true : (e : Assignment) (l : Lit) → all_true e ((l ∷ []) ∷ []) ≡ is_true_literal m e l
  one_true e l = and-true (is_true_literal m e l || false) ∙ or-false (is_true_literal m e l)

  -- the clauses of an atom or its denial say what its test does
  pub literal_true : (e : Assignment) (terms : Substitution) (positive : Bool) (f : Fol) → IsAtom f
      → all_true e (literal_clauses terms positive f) ≡ signed positive (test (valued m e terms) f)
  literal_true e terms true verum a = refl
  literal_true e terms false verum a = refl
  literal_true e terms true falsum a = refl
  literal_true e terms false falsum a = refl
  literal_true e terms positive (equal s t) a = one_true e (literal positive (app equality (more (substitute terms s) (more (substitute terms t) none))))
      ∙ ap (signed positive) (ap₂ (λ x y. x == y) (substitute_value m e terms s) (substitute_value m e terms t))
  literal_true e terms positive (atom r ts) a = one_true e (literal positive (app r (substitute_all terms ts)))
      ∙ ap (signed positive) (ap (λ b. if b then are_equal (values_of m e (substitute_all terms ts)) else m.relation r (values_of m e (substitute_all terms ts))) a
      ∙ ap (m.relation r) (substitute_values m e terms ts))
  literal_true e terms positive (negation f) a = absurd a
  literal_true e terms positive (conjunction f g) a = absurd a
  literal_true e terms positive (disjunction f g) a = absurd a
  literal_true e terms positive (implication f g) a = absurd a
  literal_true e terms positive (equivalence f g) a = absurd a
  literal_true e terms positive (forall x f) a = absurd a
  literal_true e terms positive (exists x f) a = absurd a
