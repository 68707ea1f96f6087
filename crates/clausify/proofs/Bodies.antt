-- What the bodies of witnesses have: which symbols and which free variables.
use Rattle.std.proofs.Common.{◌≡◌, ◌⊎◌, inl, inr, ℕ, suc, ◌+◌, ◌<◌, ◌≤◌, ◌==◌, ◌||◌, Bool, true, false, if◌then◌else◌, IsTrue, List, [], ◌∷◌, ◌++◌, length, map, slice_index, refl, sym, ap, ◌∙◌, subst, arith}
use Rattle.std.proofs.lemmas.Bool.{or_left, or_right, or_cases, or_parts, eqb-true, eq-eqb, false≢true, true≢false, false_from_ne_true}
use Rattle.fol_core.specs.Bound.{binders_of, IsOnce, has_symbol, have_symbol, uses_symbol}
use Rattle.fol_core.specs.Fol.{Fol, verum, falsum, equal, atom, negation, conjunction, disjunction, implication, equivalence, forall, exists}
use Rattle.fol_core.specs.Free.{is_in, joined, without, variables_of, variables_of_all, free_vars_of}
use Rattle.fol_core.specs.Substitutions.{Substitution, with_term, substitute, substitute_all}
use Rattle.fol_core.specs.Tree.{Tree, var, elem, app, Trees, none, more, trees_of}
use Rattle.fol_core.specs.SkolemAxioms.{SkolemAxiom, IsClosedBody}
use Rattle.fol_core.proofs.Variables.{is_in_joined, is_in_without, noted_once}
use Rattle.clausify.specs.Forms.{nnf_of}
use Rattle.clausify.specs.Skolem.{substitute_in, skolem_term, somes, skolem_axioms}
use Rattle.clausify.proofs.Claims.{in_more, in_pushed, out_of}
use Rattle.clausify.proofs.Clauses.{IsApart}
use Rattle.clausify.proofs.FormSets.{joined_both}
use Rattle.clausify.proofs.Scopes.{noted_in}
use Rattle.clausify.proofs.Sets.{Set, plus, also, Sub, In, sub_plus, sub_also, in_left, in_right, joined_left, joined_right, under}

or_both : (a b c d : Bool) → (IsTrue a → IsTrue c) → (IsTrue b → IsTrue d) → IsTrue (a || b) → IsTrue (c || d)
or_both a b c d f g h = elim (or_cases a b h) [ inl i ↦ or_left c d (f i) | inr i ↦ or_right c d (g i) ]

or_turned : (a b c d : Bool) → (IsTrue a → IsTrue d) → (IsTrue b → IsTrue c) → IsTrue (a || b) → IsTrue (c || d)
or_turned a b c d f g h = elim (or_cases a b h) [ inl i ↦ or_right c d (f i) | inr i ↦ or_left c d (g i) ]

or_one : (a b c : Bool) → (IsTrue a → IsTrue c) → (IsTrue b → IsTrue c) → IsTrue (a || b) → IsTrue c
or_one a b c f g h = elim (or_cases a b h) [ inl i ↦ f i | inr i ↦ g i ]

-- a negation normal form has the symbols of its formula
pub form_uses : (sign : Bool) (f : Fol) (s : ℕ) → IsTrue (uses_symbol s (nnf_of sign f)) → IsTrue (uses_symbol s f)
form_uses true verum s i = i
form_uses true falsum s i = i
form_uses true (equal t u) s i = i
form_uses true (atom r ts) s i = i
form_uses true (negation f) s i = form_uses false f s i
form_uses true (conjunction f g) s i = or_both (uses_symbol s (nnf_of true f)) (uses_symbol s (nnf_of true g)) (uses_symbol s f) (uses_symbol s g) (form_uses true f s) (form_uses true g s) i
form_uses true (disjunction f g) s i = or_both (uses_symbol s (nnf_of true f)) (uses_symbol s (nnf_of true g)) (uses_symbol s f) (uses_symbol s g) (form_uses true f s) (form_uses true g s) i
form_uses true (implication f g) s i = or_both (uses_symbol s (nnf_of false f)) (uses_symbol s (nnf_of true g)) (uses_symbol s f) (uses_symbol s g) (form_uses false f s) (form_uses true g s) i
form_uses true (equivalence f g) s i =
    let a = uses_symbol s f in
    let b = uses_symbol s g in
    or_one (uses_symbol s (nnf_of false f) || uses_symbol s (nnf_of true g)) (uses_symbol s (nnf_of false g) || uses_symbol s (nnf_of true f)) (a || b)
    (or_both (uses_symbol s (nnf_of false f)) (uses_symbol s (nnf_of true g)) a b (form_uses false f s) (form_uses true g s))
    (or_turned (uses_symbol s (nnf_of false g)) (uses_symbol s (nnf_of true f)) a b (form_uses false g s) (form_uses true f s)) i
form_uses true (forall x f) s i = form_uses true f s i
form_uses true (exists x f) s i = form_uses true f s i
form_uses false verum s i = i
form_uses false falsum s i = i
form_uses false (equal t u) s i = i
form_uses false (atom r ts) s i = i
form_uses false (negation f) s i = form_uses true f s i
form_uses false (conjunction f g) s i = or_both (uses_symbol s (nnf_of false f)) (uses_symbol s (nnf_of false g)) (uses_symbol s f) (uses_symbol s g) (form_uses false f s) (form_uses false g s) i
form_uses false (disjunction f g) s i = or_both (uses_symbol s (nnf_of false f)) (uses_symbol s (nnf_of false g)) (uses_symbol s f) (uses_symbol s g) (form_uses false f s) (form_uses false g s) i
form_uses false (implication f g) s i = or_both (uses_symbol s (nnf_of true f)) (uses_symbol s (nnf_of false g)) (uses_symbol s f) (uses_symbol s g) (form_uses true f s) (form_uses false g s) i
form_uses false (equivalence f g) s i =
    let a = uses_symbol s f in
    let b = uses_symbol s g in
    or_one (uses_symbol s (nnf_of true f) || uses_symbol s (nnf_of true g)) (uses_symbol s (nnf_of false f) || uses_symbol s (nnf_of false g)) (a || b)
    (or_both (uses_symbol s (nnf_of true f)) (uses_symbol s (nnf_of true g)) a b (form_uses true f s) (form_uses true g s))
    (or_both (uses_symbol s (nnf_of false f)) (uses_symbol s (nnf_of false g)) a b (form_uses false f s) (form_uses false g s)) i
form_uses false (forall x f) s i = form_uses false f s i
form_uses false (exists x f) s i = form_uses false f s i

-- whatever symbols terms and a formula have, the formula has with the terms put in
module _ (P : ℕ → Type 0) (terms : Substitution) (fine : (y s : ℕ) → IsTrue (has_symbol s (terms y)) → P s) where
  mutual
    put_uses : (t : Tree) → ((s : ℕ) → IsTrue (has_symbol s t) → P s) → (s : ℕ) → IsTrue (has_symbol s (substitute terms t)) → P s
    put_uses (var y) h s i = fine y s i
    put_uses (elem k) h s i = h s i
    put_uses (app f ts) h s i = elim (or_cases (s == f) (have_symbol s (substitute_all terms ts)) i) [
      | inl j ↦ h s (or_left (s == f) (have_symbol s ts) j)
      | inr j ↦ puts_use ts (λ r k. h r (or_right (r == f) (have_symbol r ts) k)) s j
    ]

    puts_use : (ts : Trees) → ((s : ℕ) → IsTrue (have_symbol s ts) → P s) → (s : ℕ) → IsTrue (have_symbol s (substitute_all terms ts)) → P s
    puts_use none h s i = h s i
    puts_use (more t ts) h s i = elim (or_cases (has_symbol s (substitute terms t)) (have_symbol s (substitute_all terms ts)) i) [
      | inl j ↦ put_uses t (λ r k. h r (or_left (has_symbol r t) (have_symbol r ts) k)) s j
      | inr j ↦ puts_use ts (λ r k. h r (or_right (has_symbol r t) (have_symbol r ts) k)) s j
    ]

  abbrev Fine : Fol → Type 0
  Fine f = (s : ℕ) → IsTrue (uses_symbol s f) → P s

  abbrev Two : Fol → Fol → Type 0
  Two f g = (s : ℕ) → IsTrue (uses_symbol s f || uses_symbol s g) → P s

  two : (f g a b : Fol) → (Fine f → Fine a) → (Fine g → Fine b) → Two f g → Two a b
  two f g a b l r h s i = elim (or_cases (uses_symbol s a) (uses_symbol s b) i) [
    | inl j ↦ l (λ k o. h k (or_left (uses_symbol k f) (uses_symbol k g) o)) s j
    | inr j ↦ r (λ k o. h k (or_right (uses_symbol k f) (uses_symbol k g) o)) s j
  ]

  pub put_in_uses : (f : Fol) → Fine f → Fine (substitute_in terms f)
  put_in_uses verum h = h
  put_in_uses falsum h = h
  put_in_uses (equal t u) h = λ s i. elim (or_cases (has_symbol s (substitute terms t)) (has_symbol s (substitute terms u)) i) [
    | inl j ↦ put_uses t (λ r k. h r (or_left (has_symbol r t) (has_symbol r u) k)) s j
    | inr j ↦ put_uses u (λ r k. h r (or_right (has_symbol r t) (has_symbol r u) k)) s j
  ]
  put_in_uses (atom r ts) h = λ s i. elim (or_cases (s == r) (have_symbol s (substitute_all terms ts)) i) [
    | inl j ↦ h s (or_left (s == r) (have_symbol s ts) j)
    | inr j ↦ puts_use ts (λ n k. h n (or_right (n == r) (have_symbol n ts) k)) s j
  ]
  put_in_uses (negation f) h = put_in_uses f h
  put_in_uses (conjunction f g) h = two f g (substitute_in terms f) (substitute_in terms g) (put_in_uses f) (put_in_uses g) h
  put_in_uses (disjunction f g) h = two f g (substitute_in terms f) (substitute_in terms g) (put_in_uses f) (put_in_uses g) h
  put_in_uses (implication f g) h = two f g (substitute_in terms f) (substitute_in terms g) (put_in_uses f) (put_in_uses g) h
  put_in_uses (equivalence f g) h = two f g (substitute_in terms f) (substitute_in terms g) (put_in_uses f) (put_in_uses g) h
  put_in_uses (forall x f) h = put_in_uses f h
  put_in_uses (exists x f) h = put_in_uses f h

-- the variables of terms that are put in for those of a term
module _ (terms : Substitution) where
  mutual
    put_variables : (T : Set) (t : Tree) → ((x : ℕ) → IsTrue (is_in x (variables_of t)) → In (variables_of (terms x)) T) → In (variables_of (substitute terms t)) T
    put_variables T (var y) h = h y (or_left (y == y) false (eq-eqb y y refl))
    put_variables T (elem k) h = λ z i. absurd (false≢true i)
    put_variables T (app f ts) h = puts_variables T ts h

    puts_variables : (T : Set) (ts : Trees) → ((x : ℕ) → IsTrue (is_in x (variables_of_all ts)) → In (variables_of (terms x)) T) → In (variables_of_all (substitute_all terms ts)) T
    puts_variables T none h = λ z i. absurd (false≢true i)
    puts_variables T (more t ts) h = joined_both (variables_of (substitute terms t)) (variables_of_all (substitute_all terms ts)) T
        (put_variables T t (λ x i. h x (is_in_joined x (variables_of t) (variables_of_all ts) ∙ or_left (is_in x (variables_of t)) (is_in x (variables_of_all ts)) i)))
        (puts_variables T ts (λ x i. h x (is_in_joined x (variables_of t) (variables_of_all ts) ∙ or_right (is_in x (variables_of t)) (is_in x (variables_of_all ts)) i)))

  -- each bound variable stands for itself
  abbrev Stays : Fol → Type 0
  Stays f = (x : ℕ) → IsTrue (is_in x (binders_of f)) → terms x ≡ var x

  abbrev Into : Set → List ℕ → Type 0
  Into T xs = (x : ℕ) → IsTrue (is_in x xs) → In (variables_of (terms x)) T

  left_in : (f g : Fol) → ((x : ℕ) → IsTrue (is_in x (binders_of f ++ binders_of g)) → terms x ≡ var x) → Stays f
  left_in f g h x i = h x (in_left x (binders_of f) (binders_of g) i)

  right_in : (f g : Fol) → ((x : ℕ) → IsTrue (is_in x (binders_of f ++ binders_of g)) → terms x ≡ var x) → Stays g
  right_in f g h x i = h x (in_right x (binders_of f) (binders_of g) i)

  pair_free : (T : Set) (f g : Fol) → (Stays f → Into T (free_vars_of f) → In (free_vars_of (substitute_in terms f)) T) → (Stays g → Into T (free_vars_of g) → In (free_vars_of (substitute_in terms g)) T)
      → ((x : ℕ) → IsTrue (is_in x (binders_of f ++ binders_of g)) → terms x ≡ var x) → Into T (joined (free_vars_of f) (free_vars_of g))
      → In (joined (free_vars_of (substitute_in terms f)) (free_vars_of (substitute_in terms g))) T
  pair_free T f g l r stays h = joined_both (free_vars_of (substitute_in terms f)) (free_vars_of (substitute_in terms g)) T
      (l (left_in f g stays) (λ x i. h x (is_in_joined x (free_vars_of f) (free_vars_of g) ∙ or_left (is_in x (free_vars_of f)) (is_in x (free_vars_of g)) i)))
      (r (right_in f g stays) (λ x i. h x (is_in_joined x (free_vars_of f) (free_vars_of g) ∙ or_right (is_in x (free_vars_of f)) (is_in x (free_vars_of g)) i)))

  under_free : (T : Set) (x : ℕ) (f : Fol) → ((U : Set) → Stays f → Into U (free_vars_of f) → In (free_vars_of (substitute_in terms f)) U)
      → ((y : ℕ) → IsTrue (y == x || is_in y (binders_of f)) → terms y ≡ var y) → Into T (without x (free_vars_of f)) → In (without x (free_vars_of (substitute_in terms f))) T
  under_free T x f below stays h z i = out (z == x) refl (sym (is_in_without z x (free_vars_of (substitute_in terms f))) ∙ i)
    where
      own : (y : ℕ) → (y == x) ≡ true → In (variables_of (terms y)) (plus x T)
      own y e z j =
          let there : IsTrue (is_in z (y ∷ [])) = sym (ap (λ (t : Tree). is_in z (variables_of t)) (stays y (or_left (y == x) (is_in y (binders_of f)) e))) ∙ j in
          elim (or_cases (z == y) false there) [
            | inl k ↦ or_left (z == x) (T z) (eq-eqb z x (eqb-true z y k ∙ eqb-true y x e))
            | inr k ↦ absurd (false≢true k)
          ]

      into : Into (plus x T) (free_vars_of f)
      into y j = by (y == x) refl
        where
          by : (b : Bool) → (y == x) ≡ b → In (variables_of (terms y)) (plus x T)
          by true e = own y e
          by false e = λ w k. or_right (w == x) (T w) (h y (is_in_without y x (free_vars_of f) ∙ ap (λ (b : Bool). if b then false else is_in y (free_vars_of f)) e ∙ j) w k)

      all : In (free_vars_of (substitute_in terms f)) (plus x T)
      all = below (plus x T) (λ y j. stays y (or_right (y == x) (is_in y (binders_of f)) j)) into

      out : (b : Bool) → (z == x) ≡ b → (if b then false else is_in z (free_vars_of (substitute_in terms f))) ≡ true → IsTrue (T z)
      out true e j = absurd (false≢true j)
      out false e j = subst (λ (b : Bool). IsTrue (b || T z)) e (all z j)

  pub put_free : (f : Fol) (T : Set) → Stays f → Into T (free_vars_of f) → In (free_vars_of (substitute_in terms f)) T
  put_free verum T stays h = λ z i. absurd (false≢true i)
  put_free falsum T stays h = λ z i. absurd (false≢true i)
  put_free (equal t u) T stays h = joined_both (variables_of (substitute terms t)) (variables_of (substitute terms u)) T
      (put_variables T t (λ x i. h x (is_in_joined x (variables_of t) (variables_of u) ∙ or_left (is_in x (variables_of t)) (is_in x (variables_of u)) i)))
      (put_variables T u (λ x i. h x (is_in_joined x (variables_of t) (variables_of u) ∙ or_right (is_in x (variables_of t)) (is_in x (variables_of u)) i)))
  put_free (atom r ts) T stays h = puts_variables T ts h
  put_free (negation f) T stays h = put_free f T stays h
  put_free (conjunction f g) T stays h = pair_free T f g (put_free f T) (put_free g T) stays h
  put_free (disjunction f g) T stays h = pair_free T f g (put_free f T) (put_free g T) stays h
  put_free (implication f g) T stays h = pair_free T f g (put_free f T) (put_free g T) stays h
  put_free (equivalence f g) T stays h = pair_free T f g (put_free f T) (put_free g T) stays h
  put_free (forall x f) T stays h = under_free T x f (λ U. put_free f U) stays h
  put_free (exists x f) T stays h = under_free T x f (λ U. put_free f U) stays h

-- Around a part the variables of the set are bound: the terms for them have variables of the scope alone, each of which is in
-- it once, and every other variable stands for itself.
pub record Around (u : Set) (scope : List ℕ) (terms : Substitution) : Type 0 where
  pub inside : (y : ℕ) → IsTrue (u y) → (z : ℕ) → IsTrue (is_in z (variables_of (terms y))) → IsTrue (is_in z scope)
  pub outside : (y : ℕ) → u y ≡ false → terms y ≡ var y
  pub once : IsOnce scope
  pub scoped : In scope u

pub around_none : Around (λ y. false) [] var
around_none = record { inside = λ y i. absurd (false≢true i); outside = λ y o. refl; once = tt; scoped = λ y i. absurd (false≢true i) }

around_every : (u : Set) (scope : List ℕ) (terms : Substitution) (x : ℕ) → u x ≡ false → Around u scope terms → Around (plus x u) (scope ++ x ∷ []) terms
around_every u scope terms x new a = record {
  inside = λ y i z j. by y z j (y == x) refl i;
  outside = λ y o. a.outside y (or_parts (y == x) (u y) o).1;
  once = noted_once scope x a.once (false_from_ne_true (is_in x scope) (λ i. true≢false (sym (a.scoped x i) ∙ new)));
  scoped = in_pushed u scope x a.scoped;
}
  where
    by : (y z : ℕ) → IsTrue (is_in z (variables_of (terms y))) → (b : Bool) → (y == x) ≡ b → IsTrue (b || u y) → IsTrue (is_in z (scope ++ x ∷ []))
    by y z j true e i =
        let own : terms y ≡ var y = a.outside y (subst (λ (v : ℕ). u v ≡ false) (sym (eqb-true y x e)) new) in
        in_right z scope (x ∷ []) (subst (λ (v : ℕ). IsTrue (is_in z (v ∷ []))) (eqb-true y x e) (sym (ap (λ (t : Tree). is_in z (variables_of t)) own) ∙ j))
    by y z j false e i = in_left z scope (x ∷ []) (a.inside y i z j)

around_some : (u : Set) (scope : List ℕ) (terms : Substitution) (y s : ℕ) → Around u scope terms → Around (plus y u) scope (with_term terms y (skolem_term s scope))
around_some u scope terms y s a = record {
  inside = λ v i z j. by v z (v == y) i j;
  outside = λ v o. let parts = or_parts (v == y) (u v) o in ap (λ (b : Bool). if b then skolem_term s scope else terms v) parts.0 ∙ a.outside v parts.1;
  once = a.once;
  scoped = in_more u (plus y u) scope (sub_plus y u) a.scoped;
}
  where
    by : (v z : ℕ) (b : Bool) → IsTrue (b || u v) → IsTrue (is_in z (variables_of (if b then skolem_term s scope else terms v))) → IsTrue (is_in z scope)
    by v z true i j = noted_in z scope j
    by v z false i j = a.inside v i z j

-- fewer variables are taken
apart_less : (u v : Set) (f : Fol) → Sub u v → IsApart v f → IsApart u f
apart_less u v verum sub h = h
apart_less u v falsum sub h = h
apart_less u v (equal s t) sub h = h
apart_less u v (atom r ts) sub h = h
apart_less u v (negation f) sub h = h
apart_less u v (implication f g) sub h = h
apart_less u v (equivalence f g) sub h = h
apart_less u v (conjunction f g) sub h = (apart_less u v f sub h.0, apart_less u v g sub h.1)
apart_less u v (disjunction f g) sub h = (apart_less (also (binders_of g) u) (also (binders_of g) v) f (also_more (binders_of g)) h.0, apart_less (also (binders_of f) u) (also (binders_of f) v) g (also_more (binders_of f)) h.1)
  where
    also_more : (xs : List ℕ) → Sub (also xs u) (also xs v)
    also_more xs y i = or_both (is_in y xs) (u y) (is_in y xs) (v y) (λ j. j) (sub y) i
apart_less u v (forall x f) sub h = (false_from_ne_true (u x) (λ i. true≢false (sym (sub x i) ∙ h.0)), apart_less (plus x u) (plus x v) f (λ y i. or_both (y == x) (u y) (y == x) (v y) (λ j. j) (sub y) i) h.1)
apart_less u v (exists x f) sub h = (false_from_ne_true (u x) (λ i. true≢false (sym (sub x i) ∙ h.0)), apart_less (plus x u) (plus x v) f (λ y i. or_both (y == x) (u y) (y == x) (v y) (λ j. j) (sub y) i) h.1)

-- the body of an existential variable
closed_body : (u : Set) (scope : List ℕ) (terms : Substitution) (y s : ℕ) (f : Fol) → u y ≡ false → IsApart (plus y u) f → In (free_vars_of f) (plus y u) → Around u scope terms
    → IsClosedBody (record { symbol = s; variables = scope; variable = y; body = substitute_in terms f })
closed_body u scope terms y s f new apart free a = (a.once, put_free terms f (λ z. z == y || is_in z scope) stays into)
  where
    stays : (x : ℕ) → IsTrue (is_in x (binders_of f)) → terms x ≡ var x
    stays x i = a.outside x (or_parts (x == y) (u x) (out_of (plus y u) f apart x i)).1

    into : (x : ℕ) → IsTrue (is_in x (free_vars_of f)) → In (variables_of (terms x)) (λ z. z == y || is_in z scope)
    into x i z j = by (x == y) refl (free x i)
      where
        by : (b : Bool) → (x == y) ≡ b → IsTrue (b || u x) → IsTrue (z == y || is_in z scope)
        by true e k =
            let own : terms x ≡ var x = a.outside x (subst (λ (v : ℕ). u v ≡ false) (sym (eqb-true x y e)) new) in
            elim (or_cases (z == x) false (sym (ap (λ (t : Tree). is_in z (variables_of t)) own) ∙ j)) [
              | inl o ↦ or_left (z == y) (is_in z scope) (eq-eqb z y (eqb-true z x o ∙ eqb-true x y e))
              | inr o ↦ absurd (false≢true o)
            ]
        by false e k = or_right (z == y) (is_in z scope) (a.inside x k z j)

pub many_in_two : {A : Type 0} (xs ys : List A) → length (xs ++ ys) ≡ length xs + length ys
many_in_two [] ys = omega arith
many_in_two (x ∷ xs) ys = omega (arith, many_in_two xs ys)

-- a negation normal form has as many witnesses as existential variables
pub axioms_many : (symbols : List ℕ) (k : ℕ) (scope : List ℕ) (terms : Substitution) (f : Fol) → length (skolem_axioms symbols k scope terms f) ≡ somes f
axioms_many symbols k scope terms verum = refl
axioms_many symbols k scope terms falsum = refl
axioms_many symbols k scope terms (equal s t) = refl
axioms_many symbols k scope terms (atom r ts) = refl
axioms_many symbols k scope terms (negation f) = refl
axioms_many symbols k scope terms (implication f g) = refl
axioms_many symbols k scope terms (equivalence f g) = refl
axioms_many symbols k scope terms (conjunction f g) =
    omega (arith, many_in_two (skolem_axioms symbols k scope terms f) (skolem_axioms symbols (k + somes f) scope terms g), axioms_many symbols k scope terms f, axioms_many symbols (k + somes f) scope terms g)
axioms_many symbols k scope terms (disjunction f g) =
    omega (arith, many_in_two (skolem_axioms symbols k scope terms f) (skolem_axioms symbols (k + somes f) scope terms g), axioms_many symbols k scope terms f, axioms_many symbols (k + somes f) scope terms g)
axioms_many symbols k scope terms (forall x f) = axioms_many symbols k (scope ++ x ∷ []) terms f
axioms_many symbols k scope terms (exists y f) = omega (arith, axioms_many symbols (k + 1) scope (with_term terms y (skolem_term (slice_index symbols k) scope)) f)

module _ (N : ℕ) (S : List ℕ) where
  -- a symbol of the problem, or a Skolem symbol before place k
  abbrev pub IsAllowed : ℕ → ℕ → Type 0
  IsAllowed k s = (s < N) ⊎ ((j : ℕ) × ((j < k) × (s ≡ slice_index S j)))

  allowed_more : (k l s : ℕ) → k ≤ l → IsAllowed k s → IsAllowed l s
  allowed_more k l s le (inl h) = inl h
  allowed_more k l s le (inr h) = inr (h.0, (omega (arith, h.1.0), h.1.1))

  -- each has the symbol of its place, and a body with symbols before it
  abbrev pub IsOrdered : ℕ → List SkolemAxiom → Type 0
  IsOrdered k [] = Unit {0}
  IsOrdered k (w ∷ ws) = (w.symbol ≡ slice_index S k) × ((s : ℕ) → IsTrue (uses_symbol s w.body) → IsAllowed k s) × IsClosedBody w × IsOrdered (suc k) ws

  pub ordered_two : (k l : ℕ) (xs ys : List SkolemAxiom) → l ≡ k + length xs → IsOrdered k xs → IsOrdered l ys → IsOrdered k (xs ++ ys)
  ordered_two k l [] ys e h i = subst (λ (n : ℕ). IsOrdered n ys) (omega (arith, e)) i
  ordered_two k l (x ∷ xs) ys e h i = (h.0, h.1, h.2, ordered_two (suc k) l xs ys (omega (arith, e)) h.3 i)

  abbrev TermsFine : ℕ → Substitution → Type 0
  TermsFine k terms = (y s : ℕ) → IsTrue (has_symbol s (terms y)) → IsAllowed k s

  skolem_fine : (k : ℕ) (scope : List ℕ) (s : ℕ) → IsTrue (has_symbol s (skolem_term (slice_index S k) scope)) → IsAllowed (k + 1) s
  skolem_fine k scope s i = elim (or_cases (s == slice_index S k) (have_symbol s (trees_of (map var scope))) i) [
    | inl e ↦ inr (k, (omega arith, eqb-true s (slice_index S k) e))
    | inr j ↦ absurd (false≢true (sym (no_symbol scope) ∙ j))
  ]
    where
      no_symbol : (xs : List ℕ) → have_symbol s (trees_of (map var xs)) ≡ false
      no_symbol [] = refl
      no_symbol (x ∷ xs) = no_symbol xs

  fine_some : (k : ℕ) (scope : List ℕ) (terms : Substitution) (y : ℕ) → TermsFine k terms → TermsFine (k + 1) (with_term terms y (skolem_term (slice_index S k) scope))
  fine_some k scope terms y fine v s = by (v == y)
    where
      by : (b : Bool) → IsTrue (has_symbol s (if b then skolem_term (slice_index S k) scope else terms v)) → IsAllowed (k + 1) s
      by true i = skolem_fine k scope s i
      by false i = allowed_more k (k + 1) s (omega arith) (fine v s i)

  -- the two sides of a form
  abbrev Orders : Fol → Type 0
  Orders f = (u : Set) (k : ℕ) (scope : List ℕ) (terms : Substitution) → IsApart u f → In (free_vars_of f) u → Around u scope terms → TermsFine k terms → ((s : ℕ) → IsTrue (uses_symbol s f) → s < N)
      → IsOrdered k (skolem_axioms S k scope terms f)

  ordered_sides : (f g : Fol) → Orders f → Orders g → (u : Set) (k : ℕ) (scope : List ℕ) (terms : Substitution) → IsApart u f → IsApart u g → In (joined (free_vars_of f) (free_vars_of g)) u
      → Around u scope terms → TermsFine k terms → ((s : ℕ) → IsTrue (uses_symbol s f || uses_symbol s g) → s < N) → IsOrdered k (skolem_axioms S k scope terms f ++ skolem_axioms S (k + somes f) scope terms g)
  ordered_sides f g l r u k scope terms af ag free a fine below =
      ordered_two k (k + somes f) (skolem_axioms S k scope terms f) (skolem_axioms S (k + somes f) scope terms g) (omega (arith, axioms_many S k scope terms f))
      (l u k scope terms af (joined_left (free_vars_of f) (free_vars_of g) u free) a fine (λ s i. below s (or_left (uses_symbol s f) (uses_symbol s g) i)))
      (r u (k + somes f) scope terms ag (joined_right (free_vars_of f) (free_vars_of g) u free) a (λ y s i. allowed_more k (k + somes f) s (omega arith) (fine y s i))
      (λ s i. below s (or_right (uses_symbol s f) (uses_symbol s g) i)))

  pub ordered : (f : Fol) → Orders f
  ordered verum u k scope terms apart free a fine below = tt
  ordered falsum u k scope terms apart free a fine below = tt
  ordered (equal s t) u k scope terms apart free a fine below = tt
  ordered (atom r ts) u k scope terms apart free a fine below = tt
  ordered (negation f) u k scope terms apart free a fine below = tt
  ordered (implication f g) u k scope terms apart free a fine below = tt
  ordered (equivalence f g) u k scope terms apart free a fine below = tt
  ordered (conjunction f g) u k scope terms apart free a fine below = ordered_sides f g (ordered f) (ordered g) u k scope terms apart.0 apart.1 free a fine below
  ordered (disjunction f g) u k scope terms apart free a fine below =
      ordered_sides f g (ordered f) (ordered g) u k scope terms (apart_less u (also (binders_of g) u) f (sub_also (binders_of g) u) apart.0) (apart_less u (also (binders_of f) u) g (sub_also (binders_of f) u) apart.1) free a fine below
  ordered (forall x f) u k scope terms apart free a fine below =
      ordered f (plus x u) k (scope ++ x ∷ []) terms apart.1 (under x (free_vars_of f) u free) (around_every u scope terms x apart.0 a) fine below
  ordered (exists y f) u k scope terms apart free a fine below =
      let inner = under y (free_vars_of f) u free in
      let next = with_term terms y (skolem_term (slice_index S k) scope) in (
        refl,
        put_in_uses (IsAllowed k) terms fine f (λ s i. inl (below s i)),
        closed_body u scope terms y (slice_index S k) f apart.0 apart.1 inner a,
        subst (λ (n : ℕ). IsOrdered n (skolem_axioms S (k + 1) scope next f)) (omega arith)
            (ordered f (plus y u) (k + 1) scope next apart.1 inner (around_some u scope terms y (slice_index S k) a) (fine_some k scope terms y fine) below),
      )
