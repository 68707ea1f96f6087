-- Truth is stable, and free variables decide it.
use Rattle.std.proofs.Common.{◌≡◌, ◌↔◌, inl, inr, ℕ, Bool, true, false, ◌==◌, ◌||◌, if◌then◌else◌, IsTrue, List, [], ◌∷◌, refl, sym, ap, ap₂, subst, ◌∙◌}
use Rattle.std.proofs.lemmas.Bool.{or_left, or_right, or_parts, eq-eqb, eqb-true, cases_eq, false≢true}
use Rattle.fol_core.specs.Tree.{Tree, var, elem, app, Trees, none, more}
use Rattle.fol_core.specs.Fol.{Fol, verum, falsum, equal, atom, negation, conjunction, disjunction, implication, equivalence, forall, exists}
use Rattle.fol_core.specs.Free.{is_in, joined, without, variables_of, variables_of_all, free_vars_of, closed_over, closure_of}
use Rattle.fol_core.specs.Meaning.{Meaning, AllWithin, IsLawful}
use Rattle.fol_core.specs.Truth.{Assignment, with_var, IsWithin, value_of, values_of, Holds}
use Rattle.fol_core.specs.Laws.{NamesElements, AllNameElements}
use Rattle.fol_core.proofs.Variables.{is_in_joined, is_in_without}

number_stable : (a b : ℕ) → ¬ ¬ (a ≡ b) → a ≡ b
number_stable a b h = elim (cases_eq a b) [ inl e ↦ e | inr apart ↦ absurd (h apart) ]

test_stable : (b : Bool) → ¬ ¬ IsTrue b → IsTrue b
test_stable true h = refl
test_stable false h = absurd (h false≢true)

module _ (m : Meaning) where
  -- what isn't false is true
  pub stable : (e : Assignment) (f : Fol) → ¬ ¬ Holds m e f → Holds m e f
  stable e verum h = tt
  stable e falsum h = h (λ x. x)
  stable e (equal s t) h = number_stable (value_of m e s) (value_of m e t) h
  stable e (atom r ts) h = test_stable (m.relation r (values_of m e ts)) h
  stable e (negation f) h = λ x. h (λ k. k x)
  stable e (conjunction f g) h = (stable e f (λ k. h (λ p. k p.0)), stable e g (λ k. h (λ p. k p.1)))
  stable e (disjunction f g) h = λ k. h (λ p. p k)
  stable e (implication f g) h = λ x. stable e g (λ k. h (λ p. k (p x)))
  stable e (equivalence f g) h = (λ x. stable e g (λ k. h (λ p. k (p.0 x))), λ x. stable e f (λ k. h (λ p. k (p.1 x))))
  stable e (forall x f) h = λ n w. stable (with_var e x n) f (λ k. h (λ p. k (p n w)))
  stable e (exists x f) h = λ k. h (λ p. p k)

abbrev Agree : List ℕ → Assignment → Assignment → Type 0
Agree xs d e = (x : ℕ) → IsTrue (is_in x xs) → d x ≡ e x

agree_left : (xs ys : List ℕ) (d e : Assignment) → Agree (joined xs ys) d e → Agree xs d e
agree_left xs ys d e h x i = h x (is_in_joined x xs ys ∙ or_left (is_in x xs) (is_in x ys) i)

agree_right : (xs ys : List ℕ) (d e : Assignment) → Agree (joined xs ys) d e → Agree ys d e
agree_right xs ys d e h x i = h x (is_in_joined x xs ys ∙ or_right (is_in x xs) (is_in x ys) i)

agree_bound : (xs : List ℕ) (d e : Assignment) (y n : ℕ) → Agree (without y xs) d e → Agree xs (with_var d y n) (with_var e y n)
agree_bound xs d e y n h x i = by (x == y) refl
  where
    by : (b : Bool) → (x == y) ≡ b → (if b then n else d x) ≡ (if b then n else e x)
    by true e = refl
    by false e = h x (is_in_without x y xs ∙ ap (λ b. if b then false else is_in x xs) e ∙ i)

module _ (m : Meaning) where
  mutual
    pub alike_value : (d e : Assignment) (t : Tree) → Agree (variables_of t) d e → value_of m d t ≡ value_of m e t
    alike_value d e (var x) h = h x (or_left (x == x) false (eq-eqb x x refl))
    alike_value d e (elem k) h = refl
    alike_value d e (app f ts) h = ap (m.function f) (alike_values d e ts h)

    pub alike_values : (d e : Assignment) (ts : Trees) → Agree (variables_of_all ts) d e → values_of m d ts ≡ values_of m e ts
    alike_values d e none h = refl
    alike_values d e (more t ts) h =
        ap₂ (λ v vs. v ∷ vs) (alike_value d e t (agree_left (variables_of t) (variables_of_all ts) d e h)) (alike_values d e ts (agree_right (variables_of t) (variables_of_all ts) d e h))

  -- assignments that agree on the free variables agree on the truth
  pub alike : (d e : Assignment) (f : Fol) → Agree (free_vars_of f) d e → Holds m d f ≡ Holds m e f
  alike d e verum h = refl
  alike d e falsum h = refl
  alike d e (equal s t) h = λ i. alike_value d e s (agree_left (variables_of s) (variables_of t) d e h) i ≡ alike_value d e t (agree_right (variables_of s) (variables_of t) d e h) i
  alike d e (atom r ts) h = λ i. IsTrue (m.relation r (alike_values d e ts h i))
  alike d e (negation f) h = λ i. ¬ alike d e f h i
  alike d e (conjunction f g) h =
      let l = alike d e f (agree_left (free_vars_of f) (free_vars_of g) d e h) in
      let r = alike d e g (agree_right (free_vars_of f) (free_vars_of g) d e h) in
      λ i. l i × r i
  alike d e (disjunction f g) h =
      let l = alike d e f (agree_left (free_vars_of f) (free_vars_of g) d e h) in
      let r = alike d e g (agree_right (free_vars_of f) (free_vars_of g) d e h) in
      λ i. ¬ (¬ l i × ¬ r i)
  alike d e (implication f g) h =
      let l = alike d e f (agree_left (free_vars_of f) (free_vars_of g) d e h) in
      let r = alike d e g (agree_right (free_vars_of f) (free_vars_of g) d e h) in
      λ i. l i → r i
  alike d e (equivalence f g) h =
      let l = alike d e f (agree_left (free_vars_of f) (free_vars_of g) d e h) in
      let r = alike d e g (agree_right (free_vars_of f) (free_vars_of g) d e h) in
      λ i. (l i → r i) × (r i → l i)
  alike d e (forall x f) h = λ i. (n : ℕ) → IsTrue (m.within n) → alike (with_var d x n) (with_var e x n) f (agree_bound (free_vars_of f) d e x n h) i
  alike d e (exists x f) h = λ i. ¬ ((n : ℕ) → IsTrue (m.within n) → ¬ alike (with_var d x n) (with_var e x n) f (agree_bound (free_vars_of f) d e x n h) i)

pub free_decide : (m : Meaning) (d e : Assignment) (f : Fol) → Agree (free_vars_of f) d e → Holds m d f ↔ Holds m e f
free_decide m d e f h = (subst (λ A. A) (alike m d e f h), subst (λ A. A) (sym (alike m d e f h)))

-- the assignment e with the elements that d gives the variables xs
set_all : List ℕ → Assignment → Assignment → Assignment
set_all [] d e = e
set_all (x ∷ xs) d e = set_all xs d (with_var e x (d x))

set_all_is : (xs : List ℕ) (d e : Assignment) (y : ℕ) → set_all xs d e y ≡ (if is_in y xs then d y else e y)
unfolding set_all
set_all_is [] d e y = refl
set_all_is (x ∷ xs) d e y = set_all_is xs d (with_var e x (d x)) y ∙ by (y == x) refl (is_in y xs)
  where
    by : (c : Bool) → (y == x) ≡ c → (b : Bool) → (if b then d y else (if c then d x else e y)) ≡ (if c || b then d y else e y)
    by true same true = refl
    by true same false = ap d (sym (eqb-true y x same))
    by false apart true = refl
    by false apart false = refl

module _ (m : Meaning) where
  EachWithin : List ℕ → Assignment → Type 0
  EachWithin xs d = (y : ℕ) → IsTrue (is_in y xs) → IsTrue (m.within (d y))

  -- what is under the quantifiers holds of all elements for their variables
  opened : (xs : List ℕ) (d e : Assignment) (f : Fol) → EachWithin xs d → Holds m e (closed_over xs f) → Holds m (set_all xs d e) f
  unfolding set_all EachWithin
  opened [] d e f within h = h
  opened (x ∷ xs) d e f within h =
      opened xs d (with_var e x (d x)) f (λ y i. within y (or_right (y == x) (is_in y xs) i)) (h (d x) (within x (or_left (x == x) (is_in x xs) (eq-eqb x x refl))))

  -- and so does the quantified formula, if it does
  closed : (xs : List ℕ) (e : Assignment) (f : Fol)
      → ((d : Assignment) → EachWithin xs d → ((y : ℕ) → is_in y xs ≡ false → d y ≡ e y) → Holds m d f) → Holds m e (closed_over xs f)
  unfolding EachWithin
  closed [] e f all = all e (λ y i. absurd (false≢true i)) (λ y i. refl)
  closed (x ∷ xs) e f all = λ n w. closed xs (with_var e x n) f (λ d within same. all d
      (λ y i. inside d n w y (is_in y xs) (y == x) refl (within y) (same y) i)
      (λ y o. let parts = or_parts (y == x) (is_in y xs) o in same y parts.1 ∙ ap (λ b. if b then n else e y) parts.0))
    where
      inside : (d : Assignment) (n : ℕ) → IsTrue (m.within n) → (y : ℕ) (b c : Bool) → (y == x) ≡ c → (IsTrue b → IsTrue (m.within (d y)))
          → (b ≡ false → d y ≡ (if y == x then n else e y)) → IsTrue (c || b) → IsTrue (m.within (d y))
      inside d n w y true c is within same i = within refl
      inside d n w y false true is within same i = subst (λ k. IsTrue (m.within k)) (sym (same refl ∙ ap (λ b. if b then n else e y) is)) w
      inside d n w y false false is within same i = absurd (false≢true i)

  -- the closure is true exactly where the formula is true whatever elements its variables have
  pub closure_general : IsLawful m → (e : Assignment) (f : Fol) → Holds m e (closure_of f) ↔ ((d : Assignment) → IsWithin m d → Holds m d f)
  unfolding EachWithin
  closure_general lawful e f = (each, whole)
    where
      each : Holds m e (closure_of f) → (d : Assignment) → IsWithin m d → Holds m d f
      each h d w = subst (λ A. A)
          (alike m (set_all (free_vars_of f) d e) d f (λ x i. set_all_is (free_vars_of f) d e x ∙ ap (λ b. if b then d x else e x) i))
          (opened (free_vars_of f) d e f (λ y i. w y) h)

      either_within : (b : Bool) (x : ℕ) → (IsTrue b → IsTrue (m.within x)) → IsTrue (m.within (if b then x else lawful.element.0))
      either_within true x h = h refl
      either_within false x h = lawful.element.1

      whole : ((d : Assignment) → IsWithin m d → Holds m d f) → Holds m e (closure_of f)
      whole all = closed (free_vars_of f) e f (λ d within same. subst (λ A. A)
          (alike m (λ y. if is_in y (free_vars_of f) then d y else lawful.element.0) d f (λ x i. ap (λ b. if b then d x else lawful.element.0) i))
          (all (λ y. if is_in y (free_vars_of f) then d y else lawful.element.0) (λ y. either_within (is_in y (free_vars_of f)) (d y) (within y))))

  mutual
    -- the value of a term is within
    pub value_within : IsLawful m → (e : Assignment) → IsWithin m e → (t : Tree) → NamesElements m t → IsTrue (m.within (value_of m e t))
    value_within lawful e w (var x) names = w x
    value_within lawful e w (elem k) names = names
    value_within lawful e w (app f ts) names = lawful.closed f (values_of m e ts) (values_within lawful e w ts names)

    values_within : IsLawful m → (e : Assignment) → IsWithin m e → (ts : Trees) → AllNameElements m ts → AllWithin m (values_of m e ts)
    values_within lawful e w none names = tt
    values_within lawful e w (more t ts) names = (value_within lawful e w t names.0, values_within lawful e w ts names.1)
