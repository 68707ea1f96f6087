-- Substitution that stand for variables, and truth under them.
use Rattle.std.proofs.Common.{◌≡◌, ◌⊎◌, inl, inr, ℕ, Bool, true, false, ◌==◌, ◌||◌, if◌then◌else◌, IsTrue, List, [], ◌∷◌, map, refl, sym, ap, ◌∙◌, subst}
use Rattle.std.proofs.lemmas.Bool.{or_left, or_right, or_parts, or_cases, eqb-true, eq-eqb, false≢true, true≢false, cases_Bool}
use Rattle.fol_core.specs.Tree.{var, trees_of}
use Rattle.fol_core.specs.Fol.{Fol, verum, falsum, equal, atom, negation, conjunction, disjunction, implication, equivalence, forall, exists}
use Rattle.fol_core.specs.Bound.{binders_of}
use Rattle.fol_core.specs.Free.{is_in, variables_of, variables_of_all}
use Rattle.fol_core.specs.Meaning.{Meaning, AllWithin, IsLawful}
use Rattle.fol_core.specs.Truth.{Assignment, with_var, IsWithin, value_of, values_of, Holds}
use Rattle.fol_core.proofs.TruthLemmas.{alike_value}
use Rattle.fol_core.proofs.Variables.{is_in_joined}
use Rattle.fol_core.specs.Substitutions.{Substitution, with_term}
use Rattle.substitutions.specs.Instances.{valued}
use Rattle.substitutions.proofs.Truth.{substitute_value, substitute_values}
use Rattle.clausify.specs.Skolem.{substitute_in, skolem_term}
use Rattle.clausify.proofs.Sets.{Set, plus, Sub, In, Out, in_left, in_right}

-- Inside the set terms have variables of the set, and outside each variable stands for itself.
pub record Known (u : Set) (terms : Substitution) : Type 0 where
  pub inside : (y : ℕ) → IsTrue (u y) → In (variables_of (terms y)) u
  pub outside : (y : ℕ) → u y ≡ false → terms y ≡ var y

either_in : (u : Set) (y : ℕ) → IsTrue (u y) ⊎ (u y ≡ false)
either_in u y = by (u y) refl
  where
    by : (b : Bool) → u y ≡ b → IsTrue (u y) ⊎ (u y ≡ false)
    by true e = inl e
    by false e = inr e

one_in : (y z : ℕ) → IsTrue (is_in z (y ∷ [])) → z ≡ y
one_in y z i = elim (or_cases (z == y) false i) [ inl e ↦ eqb-true z y e | inr e ↦ absurd (false≢true e) ]

-- a greater set does as well
pub known_more : (u v : Set) (terms : Substitution) → Sub u v → Known u terms → Known v terms
known_more u v terms sub known = record {
  inside = λ y i. elim (either_in u y) [
    | inl h ↦ λ z j. sub z (known.inside y h z j)
    | inr h ↦ λ z j. subst (λ w. IsTrue (v w)) (sym (one_in y z (sym (ap (λ t. is_in z (variables_of t)) (known.outside y h)) ∙ j))) i
  ];
  outside = λ y o. elim (either_in u y) [ inl h ↦ absurd (true≢false (sym (sub y h) ∙ o)) | inr h ↦ known.outside y h ];
}

pub known_none : Known (λ y. false) var
known_none = record { inside = λ y i. absurd (false≢true i); outside = λ y o. refl }

pub noted_in : (z : ℕ) (xs : List ℕ) → IsTrue (is_in z (variables_of_all (trees_of (map var xs)))) → IsTrue (is_in z xs)
noted_in z [] i = i
noted_in z (x ∷ xs) i = elim (or_cases (is_in z (x ∷ [])) (is_in z (variables_of_all (trees_of (map var xs)))) (sym (is_in_joined z (x ∷ []) (variables_of_all (trees_of (map var xs)))) ∙ i)) [
  | inl h ↦ or_left (z == x) (is_in z xs) (eq-eqb z x (one_in x z h))
  | inr h ↦ or_right (z == x) (is_in z xs) (noted_in z xs h)
]

-- a Skolem term for one more variable
pub known_term : (u : Set) (terms : Substitution) (scope : List ℕ) (y s : ℕ) → Known u terms → In scope u → Known (plus y u) (with_term terms y (skolem_term s scope))
known_term u terms scope y s known scoped = record {
  inside = λ z i. inside z (z == y) refl i;
  outside = λ z o. let parts = or_parts (z == y) (u z) o in ap (λ b. if b then skolem_term s scope else terms z) parts.0 ∙ known.outside z parts.1;
}
  where
    inside : (z : ℕ) (b : Bool) → (z == y) ≡ b → IsTrue (b || u z) → In (variables_of (if b then skolem_term s scope else terms z)) (plus y u)
    inside z true e i = λ w j. or_right (w == y) (u w) (scoped w (noted_in w scope j))
    inside z false e i = λ w j. or_right (w == y) (u w) (known.inside z i w j)

module _ (m : Meaning) where
  skolem_values : (e : Assignment) (xs : List ℕ) → values_of m e (trees_of (map var xs)) ≡ map e xs
  skolem_values e [] = refl
  skolem_values e (x ∷ xs) = ap (λ vs. e x ∷ vs) (skolem_values e xs)

  -- the element of a Skolem term
  pub skolem_value : (e : Assignment) (s : ℕ) (scope : List ℕ) → value_of m e (skolem_term s scope) ≡ m.function s (map e scope)
  skolem_value e s scope = ap (m.function s) (skolem_values e scope)

  all_within : (e : Assignment) → IsWithin m e → (xs : List ℕ) → AllWithin m (map e xs)
  all_within e w [] = tt
  all_within e w (x ∷ xs) = (w x, all_within e w xs)

  pub skolem_within : IsLawful m → (e : Assignment) → IsWithin m e → (s : ℕ) (scope : List ℕ) → IsTrue (m.within (m.function s (map e scope)))
  skolem_within lawful e w s scope = lawful.closed s (map e scope) (all_within e w scope)

  -- a variable with another element
  pub within_var : (e : Assignment) (x n : ℕ) → IsWithin m e → IsTrue (m.within n) → IsWithin m (with_var e x n)
  within_var e x n w i = λ y. by (y == x) y
    where
      by : (b : Bool) (y : ℕ) → IsTrue (m.within (if b then n else e y))
      by true y = i
      by false y = w y

  -- Where the variable isn't in the set, terms stand for the same elements but there.
  pub valued_var : (u : Set) (terms : Substitution) (e : Assignment) (x n : ℕ) → Known u terms → u x ≡ false
      → ◌≡◌ {A = Assignment} (valued m (with_var e x n) terms) (with_var (valued m e terms) x n)
  valued_var u terms e x n known new = λ i y. at y i
    where
      apart : (y : ℕ) → IsTrue (u y) → (y == x) ≡ false
      apart y i = elim (cases_Bool (y == x)) [
        | inl h ↦ absurd (true≢false (sym (subst (λ z. IsTrue (u z)) (eqb-true y x h) i) ∙ new))
        | inr h ↦ h
      ]

      at : (y : ℕ) → value_of m (with_var e x n) (terms y) ≡ (if y == x then n else value_of m e (terms y))
      at y = elim (either_in u y) [
        | inl h ↦ alike_value m (with_var e x n) e (terms y) (λ z j. ap (λ b. if b then n else e z) (apart z (known.inside y h z j)))
            ∙ sym (ap (λ b. if b then n else value_of m e (terms y)) (apart y h))
        | inr h ↦ ap (value_of m (with_var e x n)) (known.outside y h) ∙ sym (ap (λ t. if y == x then n else value_of m e t) (known.outside y h))
      ]

  -- the terms put in, a formula is true where it is so of their elements
  pub put_holds : (u : Set) (terms : Substitution) (e : Assignment) (f : Fol) → Known u terms → Out (binders_of f) u → Holds m e (substitute_in terms f) ≡ Holds m (valued m e terms) f
  put_holds u terms e verum known new = refl
  put_holds u terms e falsum known new = refl
  put_holds u terms e (equal s t) known new = λ i. substitute_value m e terms s i ≡ substitute_value m e terms t i
  put_holds u terms e (atom r ts) known new = λ i. IsTrue (m.relation r (substitute_values m e terms ts i))
  put_holds u terms e (negation f) known new = λ i. ¬ put_holds u terms e f known new i
  put_holds u terms e (conjunction f g) known new =
      let l = put_holds u terms e f known (λ y j. new y (in_left y (binders_of f) (binders_of g) j)) in
      let r = put_holds u terms e g known (λ y j. new y (in_right y (binders_of f) (binders_of g) j)) in
      λ i. l i × r i
  put_holds u terms e (disjunction f g) known new =
      let l = put_holds u terms e f known (λ y j. new y (in_left y (binders_of f) (binders_of g) j)) in
      let r = put_holds u terms e g known (λ y j. new y (in_right y (binders_of f) (binders_of g) j)) in
      λ i. ¬ (¬ l i × ¬ r i)
  put_holds u terms e (implication f g) known new =
      let l = put_holds u terms e f known (λ y j. new y (in_left y (binders_of f) (binders_of g) j)) in
      let r = put_holds u terms e g known (λ y j. new y (in_right y (binders_of f) (binders_of g) j)) in
      λ i. l i → r i
  put_holds u terms e (equivalence f g) known new =
      let l = put_holds u terms e f known (λ y j. new y (in_left y (binders_of f) (binders_of g) j)) in
      let r = put_holds u terms e g known (λ y j. new y (in_right y (binders_of f) (binders_of g) j)) in
      λ i. (l i → r i) × (r i → l i)
  put_holds u terms e (forall x f) known new =
      let h = λ (n : ℕ). put_holds u terms (with_var e x n) f known (λ y j. new y (or_right (y == x) (is_in y (binders_of f)) j))
      ∙ ap (λ d. Holds m d f) (valued_var u terms e x n known (new x (or_left (x == x) (is_in x (binders_of f)) (eq-eqb x x refl)))) in
      λ i. (n : ℕ) → IsTrue (m.within n) → h n i
  put_holds u terms e (exists x f) known new =
      let h = λ (n : ℕ). put_holds u terms (with_var e x n) f known (λ y j. new y (or_right (y == x) (is_in y (binders_of f)) j))
      ∙ ap (λ d. Holds m d f) (valued_var u terms e x n known (new x (or_left (x == x) (is_in x (binders_of f)) (eq-eqb x x refl)))) in
      λ i. ¬ ((n : ℕ) → IsTrue (m.within n) → ¬ h n i)
