-- The clauses of a goal's denial are true under each assignment under which the goal isn't true with what is asked for.
use Rattle.std.proofs.Common.{◌≡◌, ◌⊎◌, inl, inr, ℕ, Bool, true, false, ◌==◌, if◌then◌else◌, IsTrue, List, [], ◌∷◌, ◌++◌, map, refl, sym, ap, ◌∙◌, subst}
use Rattle.std.proofs.lemmas.Bool.{or_cases, eqb-true, false≢true, cases_Bool}
use Rattle.answered_lines.specs.Answering.{opened, with_values}
use Rattle.answered_lines.specs.Shows.{UnansweredClausesFollow}
use Rattle.clausify.specs.Asked.{asked_variables}
use Rattle.clausify.specs.Clausal.{clauses_in}
use Rattle.clausify.specs.Forms.{nnf_of}
use Rattle.clausify.specs.Skolem.{skolem_axioms}
use Rattle.clausify.proofs.Claims.{follow, in_pushed}
use Rattle.clausify.proofs.Clauses.{IsApart, all_true}
use Rattle.clausify.proofs.FormTruth.{false_to}
use Rattle.clausify.proofs.Scopes.{Known, known_more, known_none}
use Rattle.clausify.proofs.Sets.{Set, plus, In, sub_plus}
use Rattle.clausify.proofs.WholeLaws.{apart_of}
use Rattle.fol_core.specs.Fol.{Fol, verum, falsum, equal, atom, negation, conjunction, disjunction, implication, equivalence, forall, exists}
use Rattle.fol_core.specs.Free.{is_in, without, free_vars_of, closed_over}
use Rattle.fol_core.specs.Meaning.{Meaning, IsLawful}
use Rattle.fol_core.specs.SkolemAxioms.{PicksWitnesses}
use Rattle.fol_core.specs.Tree.{var}
use Rattle.fol_core.specs.Truth.{Assignment, with_var, IsWithin, Holds}
use Rattle.fol_core.proofs.TruthLemmas.{free_decide}
use Rattle.fol_core.proofs.Variables.{is_in_without}
use Rattle.fol_problem.specs.Stated.{zero}

-- a variable may be given the element that it has
same_element : (e : Assignment) (x : ℕ) → ◌≡◌ {A = Assignment} (with_var e x (e x)) e
same_element e x = λ i y. at y (y == x) refl i
  where
    at : (y : ℕ) (b : Bool) → (y == x) ≡ b → (if b then e x else e y) ≡ e y
    at y true h = ap e (sym (eqb-true y x h))
    at y false h = refl

module _ (m : Meaning) (lawful : IsLawful m) (symbols : List ℕ) (xs : List ℕ) where
  -- where a formula is false the clauses of its denial are true
  whole_denied : (f : Fol) (u : Set) (k : ℕ) (scope : List ℕ) (e : Assignment) → IsApart u (nnf_of false f) → Known u var → In scope u → IsWithin m e
      → PicksWitnesses m (skolem_axioms symbols k scope var (nnf_of false f)) → ¬ Holds m e f → all_true m e (clauses_in symbols k scope var (nnf_of false f)) ≡ true
  whole_denied f u k scope e apart known scoped w picks wrong = follow m symbols u k scope var e (nnf_of false f) apart known scoped w picks (false_to m e f wrong)

  -- also where it is false without some quantifiers in front: each of these is denied of all elements
  opened_denied : (f : Fol) (u : Set) (k : ℕ) (scope : List ℕ) (e : Assignment) → IsApart u (nnf_of false f) → Known u var → In scope u → IsWithin m e
      → PicksWitnesses m (skolem_axioms symbols k scope var (nnf_of false f)) → ¬ Holds m e (opened xs f) → all_true m e (clauses_in symbols k scope var (nnf_of false f)) ≡ true
  opened_denied (exists x f) u k scope e apart known scoped w picks wrong =
      opened_denied f (plus x u) k (scope ++ x ∷ []) e apart.1 (known_more u (plus x u) var (sub_plus x u) known) (in_pushed u scope x scoped) w picks (by (is_in x xs) wrong)
    where
      by : (b : Bool) → ¬ Holds m e (if b then opened xs f else exists x (opened xs f)) → ¬ Holds m e (opened xs f)
      by true h = h
      by false h = λ holds. h (λ none. none (e x) (w x) (subst (λ d. Holds m d (opened xs f)) (sym (same_element e x)) holds))
  opened_denied verum u k scope e apart known scoped w picks wrong = whole_denied verum u k scope e apart known scoped w picks wrong
  opened_denied falsum u k scope e apart known scoped w picks wrong = whole_denied falsum u k scope e apart known scoped w picks wrong
  opened_denied (equal s t) u k scope e apart known scoped w picks wrong = whole_denied (equal s t) u k scope e apart known scoped w picks wrong
  opened_denied (atom r ts) u k scope e apart known scoped w picks wrong = whole_denied (atom r ts) u k scope e apart known scoped w picks wrong
  opened_denied (negation f) u k scope e apart known scoped w picks wrong = whole_denied (negation f) u k scope e apart known scoped w picks wrong
  opened_denied (conjunction f g) u k scope e apart known scoped w picks wrong = whole_denied (conjunction f g) u k scope e apart known scoped w picks wrong
  opened_denied (disjunction f g) u k scope e apart known scoped w picks wrong = whole_denied (disjunction f g) u k scope e apart known scoped w picks wrong
  opened_denied (implication f g) u k scope e apart known scoped w picks wrong = whole_denied (implication f g) u k scope e apart known scoped w picks wrong
  opened_denied (equivalence f g) u k scope e apart known scoped w picks wrong = whole_denied (equivalence f g) u k scope e apart known scoped w picks wrong
  opened_denied (forall x f) u k scope e apart known scoped w picks wrong = whole_denied (forall x f) u k scope e apart known scoped w picks wrong

-- the variables of the quantifiers that are gone are free, and no other ones are that weren't
opened_free : (xs : List ℕ) (f : Fol) (y : ℕ) → IsTrue (is_in y (free_vars_of (opened xs f))) → IsTrue (is_in y xs) ⊎ IsTrue (is_in y (free_vars_of f))
opened_free xs (exists x f) y i = by (is_in x xs) refl i (opened_free xs f y)
  where
    here : (zs : List ℕ) → (y == x) ≡ false → is_in y (without x zs) ≡ is_in y zs
    here zs other = is_in_without y x zs ∙ ap (λ b. if b then false else is_in y zs) other

    by : (b : Bool) → is_in x xs ≡ b → IsTrue (is_in y (free_vars_of (if b then opened xs f else exists x (opened xs f))))
        → (IsTrue (is_in y (free_vars_of (opened xs f))) → IsTrue (is_in y xs) ⊎ IsTrue (is_in y (free_vars_of f))) → IsTrue (is_in y xs) ⊎ IsTrue (is_in y (without x (free_vars_of f)))
    by true there j below = elim (cases_Bool (y == x)) [
      | inl same ↦ inl (subst (λ z. IsTrue (is_in z xs)) (sym (eqb-true y x same)) there)
      | inr other ↦ elim (below j) [ inl asked ↦ inl asked | inr free ↦ inr (here (free_vars_of f) other ∙ free) ]
    ]
    by false there j below = elim (cases_Bool (y == x)) [
      | inl same ↦ absurd (false≢true (sym (is_in_without y x (free_vars_of (opened xs f)) ∙ ap (λ b. if b then false else is_in y (free_vars_of (opened xs f))) same) ∙ j))
      | inr other ↦ elim (below (sym (here (free_vars_of (opened xs f)) other) ∙ j)) [ inl asked ↦ inl asked | inr free ↦ inr (here (free_vars_of f) other ∙ free) ]
    ]
opened_free xs verum y i = inr i
opened_free xs falsum y i = inr i
opened_free xs (equal s t) y i = inr i
opened_free xs (atom r ts) y i = inr i
opened_free xs (negation f) y i = inr i
opened_free xs (conjunction f g) y i = inr i
opened_free xs (disjunction f g) y i = inr i
opened_free xs (implication f g) y i = inr i
opened_free xs (equivalence f g) y i = inr i
opened_free xs (forall x f) y i = inr i

-- variables that are given the elements that they have
own_values : (d e : Assignment) (xs : List ℕ) (y : ℕ) → IsTrue (is_in y xs) → with_values d xs (map e xs) y ≡ e y
own_values d e [] y i = absurd (false≢true i)
own_values d e (x ∷ xs) y i = by (y == x) refl (or_cases (y == x) (is_in y xs) i) (own_values d e xs y)
  where
    by : (b : Bool) → (y == x) ≡ b → ((y == x) ≡ true) ⊎ (is_in y xs ≡ true) → (IsTrue (is_in y xs) → with_values d xs (map e xs) y ≡ e y) → (if b then e x else with_values d xs (map e xs) y) ≡ e y
    by true same h rest = ap e (sym (eqb-true y x same))
    by false other (inl here) rest = absurd (false≢true (sym other ∙ here))
    by false other (inr there) rest = rest there

pub clauses_follow : (m : Meaning) → IsLawful m → UnansweredClausesFollow m
clauses_follow m lawful symbols k f places closed once below picks e w untrue =
    let xs = asked_variables f places in
    let alike : (y : ℕ) → IsTrue (is_in y (free_vars_of (opened xs f))) → e y ≡ with_values zero xs (map e xs) y = λ y i. elim (opened_free xs f y i) [
      | inl asked ↦ sym (own_values zero e xs y asked)
      | inr free ↦ absurd (false≢true (subst (λ ys. IsTrue (is_in y ys)) closed free))
    ] in
    opened_denied m lawful symbols xs f (λ y. false) k [] e (subst (λ ys. IsApart (λ y. false) (nnf_of false (closed_over ys f))) closed (apart_of false f once below)) known_none (λ y i. absurd (false≢true i)) w picks
    (λ holds. untrue ((free_decide m e (with_values zero xs (map e xs)) (opened xs f) alike).0 holds))
