-- Clauses that are all true make their negation normal form true, and the other way round by witnesses.
use Rattle.std.proofs.Common.{◌≡◌, inl, inr, ℕ, ◌+◌, Bool, true, false, not, ◌==◌, ◌||◌, ◌&&◌, if◌then◌else◌, IsTrue, List, [], ◌∷◌, ◌++◌, map, slice_index, refl, sym, ap, ap₂, ◌∙◌, subst}
use Rattle.std.proofs.lemmas.Bool.{or_left, or_right, or_from, or_parts, or_cases, and_from, eqb-true, false≢true, true≢false, cases_Bool, true_from_ne_false, false_from_ne_true, and_left, and_right, not_from_false}
use Rattle.std.proofs.lemmas.List.Folds.{list_all-append}
use Rattle.fol_core.specs.Tree.{Tree, app, Trees, none, more}
use Rattle.fol_core.specs.Fol.{Fol, verum, falsum, equal, atom, negation, conjunction, disjunction, implication, equivalence, forall, exists}
use Rattle.fol_core.specs.Bound.{binders_of}
use Rattle.fol_core.specs.Free.{is_in, variables_of_all, free_vars_of}
use Rattle.fol_core.specs.Literals.{literal, equality, is_true_clause, are_equal}
use Rattle.fol_core.specs.Meaning.{Meaning, IsLawful}
use Rattle.fol_core.specs.Truth.{Assignment, with_var, IsWithin, value_of, Holds}
use Rattle.fol_core.specs.SkolemAxioms.{SkolemAxiom, PicksWitnesses}
use Rattle.fol_core.proofs.TruthLemmas.{alike_value, alike_values, alike, stable}
use Rattle.clausify.specs.Clausal.{literal_clauses, clauses_in}
use Rattle.fol_core.specs.Substitutions.{Substitution, with_term, substitute_all}
use Rattle.clausify.specs.Skolem.{skolem_term, somes, skolem_axioms}
use Rattle.clausify.proofs.Clauses.{IsAtom, IsApart, Agree, all_true, crossed_true, test, test_holds, holds_test, signed, literal_true}
use Rattle.substitutions.specs.Instances.{valued}
use Rattle.substitutions.proofs.Truth.{substitute_values}
use Rattle.clausify.proofs.Scopes.{Known, known_more, known_term, put_holds, valued_var, skolem_value, skolem_within, within_var}
use Rattle.clausify.proofs.Sets.{Set, plus, also, Sub, In, Out, sub_plus, sub_also, in_cases, in_left, in_right, joined_left, joined_right, under}

pub in_more : (u v : Set) (xs : List ℕ) → Sub u v → In xs u → In xs v
in_more u v xs sub h y i = sub y (h y i)

-- a universal variable comes into scope
pub in_pushed : (u : Set) (scope : List ℕ) (x : ℕ) → In scope u → In (scope ++ x ∷ []) (plus x u)
in_pushed u scope x h y i = elim (in_cases y scope (x ∷ []) i) [
  | inl j ↦ or_right (y == x) (u y) (h y j)
  | inr j ↦ elim (or_cases (y == x) false j) [ inl e ↦ or_left (y == x) (u y) e | inr e ↦ absurd (false≢true e) ]
]

agree_plus : (u : Set) (x : ℕ) (xs : List ℕ) (d e : Assignment) → Agree u d e → ((y : ℕ) → IsTrue (is_in y (x ∷ xs)) → d y ≡ e y) → Agree (plus x u) d e
agree_plus u x xs d e a b y i = elim (or_cases (y == x) (u y) i) [ inl h ↦ b y (or_left (y == x) (is_in y xs) h) | inr h ↦ a y h ]

agree_less : (u v : Set) (d e : Assignment) → Sub u v → Agree v d e → Agree u d e
agree_less u v d e sub a y i = a y (sub y i)

agree_through : (u : Set) (c d e : Assignment) → Agree u c d → Agree u d e → Agree u c e
agree_through u c d e a b y i = a y i ∙ b y i

out_less : (u v : Set) (xs : List ℕ) → Sub u v → Out xs v → Out xs u
out_less u v xs sub h y i = false_from_ne_true (u y) (λ j. true≢false (sym (sub y j) ∙ h y i))

-- the quantifiers of a form bind no variable of the set
pub out_of : (u : Set) (f : Fol) → IsApart u f → Out (binders_of f) u
out_of u verum a y i = absurd (false≢true i)
out_of u falsum a y i = absurd (false≢true i)
out_of u (equal s t) a y i = absurd (false≢true i)
out_of u (atom r ts) a y i = absurd (false≢true i)
out_of u (negation f) a y i = absurd (none_bound f a y i)
  where
    none_bound : (f : Fol) → IsAtom f → (y : ℕ) → IsTrue (is_in y (binders_of f)) → ⊥
    none_bound verum a y i = false≢true i
    none_bound falsum a y i = false≢true i
    none_bound (equal s t) a y i = false≢true i
    none_bound (atom r ts) a y i = false≢true i
    none_bound (negation f) a y i = a
    none_bound (conjunction f g) a y i = a
    none_bound (disjunction f g) a y i = a
    none_bound (implication f g) a y i = a
    none_bound (equivalence f g) a y i = a
    none_bound (forall x f) a y i = a
    none_bound (exists x f) a y i = a
out_of u (conjunction f g) a y i = elim (in_cases y (binders_of f) (binders_of g) i) [ inl j ↦ out_of u f a.0 y j | inr j ↦ out_of u g a.1 y j ]
out_of u (disjunction f g) a y i = elim (in_cases y (binders_of f) (binders_of g) i) [
  | inl j ↦ out_less u (also (binders_of g) u) (binders_of f) (sub_also (binders_of g) u) (out_of (also (binders_of g) u) f a.0) y j
  | inr j ↦ out_less u (also (binders_of f) u) (binders_of g) (sub_also (binders_of f) u) (out_of (also (binders_of f) u) g a.1) y j
]
out_of u (implication f g) a y i = absurd a
out_of u (equivalence f g) a y i = absurd a
out_of u (forall x f) a y i = elim (or_cases (y == x) (is_in y (binders_of f)) i) [
  | inl e ↦ subst (λ z. u z ≡ false) (sym (eqb-true y x e)) a.0
  | inr j ↦ out_less u (plus x u) (binders_of f) (sub_plus x u) (out_of (plus x u) f a.1) y j
]
out_of u (exists x f) a y i = elim (or_cases (y == x) (is_in y (binders_of f)) i) [
  | inl e ↦ subst (λ z. u z ≡ false) (sym (eqb-true y x e)) a.0
  | inr j ↦ out_less u (plus x u) (binders_of f) (sub_plus x u) (out_of (plus x u) f a.1) y j
]

module _ (m : Meaning) where
  -- terms that stand for the variables of the set have the same elements
  agree_valued : (u : Set) (terms : Substitution) (d e : Assignment) → Known u terms → Agree u d e → Agree u (valued m d terms) (valued m e terms)
  agree_valued u terms d e known a y i = alike_value m d e (terms y) (λ z j. a z (known.inside y i z j))

  same_holds : (u : Set) (terms : Substitution) (d e : Assignment) (f : Fol) → Known u terms → In (free_vars_of f) u → Agree u d e → Holds m (valued m d terms) f ≡ Holds m (valued m e terms) f
  same_holds u terms d e f known free a = alike m (valued m d terms) (valued m e terms) f (λ y i. agree_valued u terms d e known a y (free y i))

  module _ (symbols : List ℕ) where
    abbrev said_true : Assignment → ℕ → List ℕ → Substitution → Fol → Bool
    said_true e k scope terms f = all_true m e (clauses_in symbols k scope terms f)

    abbrev term_at : ℕ → List ℕ → Tree
    term_at k scope = skolem_term (slice_index symbols k) scope

    same_arguments : (u : Set) (terms : Substitution) (d e : Assignment) (positive : Bool) (r : ℕ) (ts : Trees) → Known u terms → In (variables_of_all ts) u → Agree u d e
        → all_true m d ((literal positive (app r (substitute_all terms ts)) ∷ []) ∷ []) ≡ all_true m e ((literal positive (app r (substitute_all terms ts)) ∷ []) ∷ [])
    same_arguments u terms d e positive r ts known free a = ap (λ xs. (signed m positive (if r == equality then are_equal xs else m.relation r xs) || false) && true)
        (substitute_values m d terms ts ∙ alike_values m (valued m d terms) (valued m e terms) ts (λ y i. agree_valued u terms d e known a y (free y i)) ∙ sym (substitute_values m e terms ts))

    same_literals : (u : Set) (terms : Substitution) (d e : Assignment) (positive : Bool) (f : Fol) → Known u terms → In (free_vars_of f) u → Agree u d e
        → all_true m d (literal_clauses terms positive f) ≡ all_true m e (literal_clauses terms positive f)
    same_literals u terms d e true verum known free a = refl
    same_literals u terms d e false verum known free a = refl
    same_literals u terms d e true falsum known free a = refl
    same_literals u terms d e false falsum known free a = refl
    same_literals u terms d e positive (equal s t) known free a = same_arguments u terms d e positive equality (more s (more t none)) known free a
    same_literals u terms d e positive (atom r ts) known free a = same_arguments u terms d e positive r ts known free a
    same_literals u terms d e positive (negation f) known free a = refl
    same_literals u terms d e positive (conjunction f g) known free a = refl
    same_literals u terms d e positive (disjunction f g) known free a = refl
    same_literals u terms d e positive (implication f g) known free a = refl
    same_literals u terms d e positive (equivalence f g) known free a = refl
    same_literals u terms d e positive (forall x f) known free a = refl
    same_literals u terms d e positive (exists x f) known free a = refl

    -- the truth of clauses depends on the variables in scope and those that are bound
    same_clauses : (u : Set) (k : ℕ) (scope : List ℕ) (terms : Substitution) (d e : Assignment) (f : Fol) → In (free_vars_of f) u → Known u terms → In scope u
        → Agree u d e → ((y : ℕ) → IsTrue (is_in y (binders_of f)) → d y ≡ e y) → said_true d k scope terms f ≡ said_true e k scope terms f
    same_clauses u k scope terms d e verum free known scoped a b = refl
    same_clauses u k scope terms d e falsum free known scoped a b = refl
    same_clauses u k scope terms d e (equal s t) free known scoped a b = same_literals u terms d e true (equal s t) known free a
    same_clauses u k scope terms d e (atom r ts) free known scoped a b = same_literals u terms d e true (atom r ts) known free a
    same_clauses u k scope terms d e (negation f) free known scoped a b = same_literals u terms d e false f known free a
    same_clauses u k scope terms d e (implication f g) free known scoped a b = refl
    same_clauses u k scope terms d e (equivalence f g) free known scoped a b = refl
    same_clauses u k scope terms d e (conjunction f g) free known scoped a b =
        let l = same_clauses u k scope terms d e f (joined_left (free_vars_of f) (free_vars_of g) u free) known scoped a (λ y i. b y (in_left y (binders_of f) (binders_of g) i)) in
        let r = same_clauses u (k + somes f) scope terms d e g (joined_right (free_vars_of f) (free_vars_of g) u free) known scoped a (λ y i. b y (in_right y (binders_of f) (binders_of g) i)) in
        list_all-append (is_true_clause m d) (clauses_in symbols k scope terms f) (clauses_in symbols (k + somes f) scope terms g)
        ∙ ap₂ (λ x y. x && y) l r
        ∙ sym (list_all-append (is_true_clause m e) (clauses_in symbols k scope terms f) (clauses_in symbols (k + somes f) scope terms g))
    same_clauses u k scope terms d e (disjunction f g) free known scoped a b =
        let l = same_clauses u k scope terms d e f (joined_left (free_vars_of f) (free_vars_of g) u free) known scoped a (λ y i. b y (in_left y (binders_of f) (binders_of g) i)) in
        let r = same_clauses u (k + somes f) scope terms d e g (joined_right (free_vars_of f) (free_vars_of g) u free) known scoped a (λ y i. b y (in_right y (binders_of f) (binders_of g) i)) in
        crossed_true m d (clauses_in symbols k scope terms f) (clauses_in symbols (k + somes f) scope terms g)
        ∙ ap₂ (λ x y. x || y) l r
        ∙ sym (crossed_true m e (clauses_in symbols k scope terms f) (clauses_in symbols (k + somes f) scope terms g))
    same_clauses u k scope terms d e (forall x f) free known scoped a b =
        same_clauses (plus x u) k (scope ++ x ∷ []) terms d e f (under x (free_vars_of f) u free) (known_more u (plus x u) terms (sub_plus x u) known) (in_pushed u scope x scoped)
        (agree_plus u x (binders_of f) d e a b) (λ y i. b y (or_right (y == x) (is_in y (binders_of f)) i))
    same_clauses u k scope terms d e (exists x f) free known scoped a b =
        same_clauses (plus x u) (k + 1) scope (with_term terms x (term_at k scope)) d e f (under x (free_vars_of f) u free)
        (known_term u terms scope x (slice_index symbols k) known scoped) (in_more u (plus x u) scope (sub_plus x u) scoped)
        (agree_plus u x (binders_of f) d e a b) (λ y i. b y (or_right (y == x) (is_in y (binders_of f)) i))

    -- the Skolem term's element
    picked : (terms : Substitution) (e : Assignment) (k : ℕ) (scope : List ℕ) (x : ℕ)
        → ◌≡◌ {A = Assignment} (valued m e (with_term terms x (term_at k scope))) (with_var (valued m e terms) x (m.function (slice_index symbols k) (map e scope)))
    picked terms e k scope x = λ i y. by (y == x) y i
      where
        by : (b : Bool) (y : ℕ) → value_of m e (if b then term_at k scope else terms y) ≡ (if b then m.function (slice_index symbols k) (map e scope) else value_of m e (terms y))
        by true y = skolem_value m e (slice_index symbols k) scope
        by false y = refl

    -- If the form is false, some assignment with the same elements in scope makes some clause false.
    pub suffice : IsLawful m → (u : Set) (k : ℕ) (scope : List ℕ) (terms : Substitution) (e : Assignment) (f : Fol)
        → IsApart u f → In (free_vars_of f) u → Known u terms → In scope u → IsWithin m e → ¬ Holds m (valued m e terms) f
        → ((d : Assignment) → IsWithin m d → Agree u d e → said_true d k scope terms f ≡ false → ⊥) → ⊥
    suffice lawful u k scope terms e verum apart free known scoped w wrong each = wrong tt
    suffice lawful u k scope terms e falsum apart free known scoped w wrong each = each e w (λ y i. refl) refl
    suffice lawful u k scope terms e (equal s t) apart free known scoped w wrong each = each e w (λ y i. refl)
        (literal_true m e terms true (equal s t) apart ∙ false_from_ne_true (test m (valued m e terms) (equal s t)) (λ h. wrong (test_holds m (valued m e terms) (equal s t) apart h)))
    suffice lawful u k scope terms e (atom r ts) apart free known scoped w wrong each = each e w (λ y i. refl)
        (literal_true m e terms true (atom r ts) apart ∙ false_from_ne_true (test m (valued m e terms) (atom r ts)) (λ h. wrong (test_holds m (valued m e terms) (atom r ts) apart h)))
    suffice lawful u k scope terms e (negation f) apart free known scoped w wrong each = wrong (λ h. each e w (λ y i. refl)
        (literal_true m e terms false f apart ∙ ap not (holds_test m (valued m e terms) f apart h)))
    suffice lawful u k scope terms e (implication f g) apart free known scoped w wrong each = absurd apart
    suffice lawful u k scope terms e (equivalence f g) apart free known scoped w wrong each = absurd apart
    suffice lawful u k scope terms e (conjunction f g) apart free known scoped w wrong each =
        wrong (
          stable m (valued m e terms) f (λ x. suffice lawful u k scope terms e f apart.0 (joined_left (free_vars_of f) (free_vars_of g) u free) known scoped w x
              (λ d v a h. each d v a (list_all-append (is_true_clause m d) (clauses_in symbols k scope terms f) (clauses_in symbols (k + somes f) scope terms g)
              ∙ and_left (said_true d k scope terms f) (said_true d (k + somes f) scope terms g) h))),
          stable m (valued m e terms) g (λ x. suffice lawful u (k + somes f) scope terms e g apart.1 (joined_right (free_vars_of f) (free_vars_of g) u free) known scoped w x
              (λ d v a h. each d v a (list_all-append (is_true_clause m d) (clauses_in symbols k scope terms f) (clauses_in symbols (k + somes f) scope terms g)
              ∙ and_right (said_true d k scope terms f) (said_true d (k + somes f) scope terms g) h))),
        )
    suffice lawful u k scope terms e (disjunction f g) apart free known scoped w wrong each =
        let free_f = joined_left (free_vars_of f) (free_vars_of g) u free in
        let free_g = joined_right (free_vars_of f) (free_vars_of g) u free in
        let uf = also (binders_of g) u in
        let ug = also (binders_of f) u in
        let sub_f = sub_also (binders_of g) u in
        let sub_g = sub_also (binders_of f) u in
        wrong (λ p. suffice lawful uf k scope terms e f apart.0 (in_more u uf (free_vars_of f) sub_f free_f) (known_more u uf terms sub_f known) (in_more u uf scope sub_f scoped) w p.0
        (λ d v a x.
        let near = agree_less u uf d e sub_f a in
        suffice lawful ug (k + somes f) scope terms d g apart.1 (in_more u ug (free_vars_of g) sub_g free_g) (known_more u ug terms sub_g known) (in_more u ug scope sub_g scoped) v
        (λ h. p.1 (subst (λ A. A) (same_holds u terms d e g known free_g near) h))
        (λ c z b y.
        let same = same_clauses u k scope terms c d f free_f known scoped (agree_less u ug c d sub_g b) (λ q i. b q (or_left (is_in q (binders_of f)) (u q) i)) in
        each c z (agree_through u c d e (agree_less u ug c d sub_g b) near)
        (crossed_true m c (clauses_in symbols k scope terms f) (clauses_in symbols (k + somes f) scope terms g)
        ∙ or_from (said_true c k scope terms f) (said_true c (k + somes f) scope terms g) (same ∙ x) y))))
    suffice lawful u k scope terms e (forall x f) apart free known scoped w wrong each =
        wrong (λ n i. stable m (with_var (valued m e terms) x n) f (λ h.
        suffice lawful (plus x u) k (scope ++ x ∷ []) terms (with_var e x n) f apart.1 (under x (free_vars_of f) u free)
        (known_more u (plus x u) terms (sub_plus x u) known) (in_pushed u scope x scoped) (within_var m e x n w i)
        (λ y. h (subst (λ d. Holds m d f) (valued_var m u terms e x n known apart.0) y))
        (λ d v a. each d v (λ y j. a y (or_right (y == x) (u y) j) ∙ other u e x n apart.0 y j))))
      where
        other : (u : Set) (e : Assignment) (x n : ℕ) → u x ≡ false → (y : ℕ) → IsTrue (u y) → with_var e x n y ≡ e y
        other u e x n new y i = elim (cases_Bool (y == x)) [
          | inl h ↦ absurd (true≢false (sym (subst (λ z. IsTrue (u z)) (eqb-true y x h) i) ∙ new))
          | inr h ↦ ap (λ b. if b then n else e y) h
        ]
    suffice lawful u k scope terms e (exists x f) apart free known scoped w wrong each =
        wrong (λ each_not.
        let n = m.function (slice_index symbols k) (map e scope) in
        suffice lawful (plus x u) (k + 1) scope (with_term terms x (term_at k scope)) e f apart.1 (under x (free_vars_of f) u free)
        (known_term u terms scope x (slice_index symbols k) known scoped) (in_more u (plus x u) scope (sub_plus x u) scoped) w
        (λ h. each_not n (skolem_within m lawful e w (slice_index symbols k) scope) (subst (λ d. Holds m d f) (picked terms e k scope x) h))
        (λ d v a. each d v (λ y j. a y (or_right (y == x) (u y) j))))

    pub picks_left : (ws vs : List SkolemAxiom) → PicksWitnesses m (ws ++ vs) → PicksWitnesses m ws
    picks_left [] vs h = tt
    picks_left (w ∷ ws) vs h = (h.0, picks_left ws vs h.1)

    pub picks_right : (ws vs : List SkolemAxiom) → PicksWitnesses m (ws ++ vs) → PicksWitnesses m vs
    picks_right [] vs h = h
    picks_right (w ∷ ws) vs h = picks_right ws vs h.1

    -- a variable's own element changes nothing
    own : (e : Assignment) (x : ℕ) → ◌≡◌ {A = Assignment} (with_var e x (e x)) e
    own e x = λ i y. by (y == x) refl y i
      where
        by : (b : Bool) → b ≡ b → (y : ℕ) → (if y == x then e x else e y) ≡ e y
        by b h y = at (y == x) refl
          where
            at : (c : Bool) → (y == x) ≡ c → (if c then e x else e y) ≡ e y
            at true h = ap e (sym (eqb-true y x h))
            at false h = refl

    -- If the form is true and its witnesses are picked, all clauses are true.
    pub follow : (u : Set) (k : ℕ) (scope : List ℕ) (terms : Substitution) (e : Assignment) (f : Fol)
        → IsApart u f → Known u terms → In scope u → IsWithin m e → PicksWitnesses m (skolem_axioms symbols k scope terms f) → Holds m (valued m e terms) f
        → said_true e k scope terms f ≡ true
    follow u k scope terms e verum apart known scoped w picks h = refl
    follow u k scope terms e falsum apart known scoped w picks h = absurd h
    follow u k scope terms e (equal s t) apart known scoped w picks h = literal_true m e terms true (equal s t) apart ∙ holds_test m (valued m e terms) (equal s t) apart h
    follow u k scope terms e (atom r ts) apart known scoped w picks h = literal_true m e terms true (atom r ts) apart ∙ holds_test m (valued m e terms) (atom r ts) apart h
    follow u k scope terms e (negation f) apart known scoped w picks h = literal_true m e terms false f apart
        ∙ not_from_false (test m (valued m e terms) f) (false_from_ne_true (test m (valued m e terms) f) (λ x. h (test_holds m (valued m e terms) f apart x)))
    follow u k scope terms e (implication f g) apart known scoped w picks h = absurd apart
    follow u k scope terms e (equivalence f g) apart known scoped w picks h = absurd apart
    follow u k scope terms e (conjunction f g) apart known scoped w picks h =
        let ws = skolem_axioms symbols k scope terms f in
        let vs = skolem_axioms symbols (k + somes f) scope terms g in
        list_all-append (is_true_clause m e) (clauses_in symbols k scope terms f) (clauses_in symbols (k + somes f) scope terms g)
        ∙ and_from (said_true e k scope terms f) (said_true e (k + somes f) scope terms g)
        (follow u k scope terms e f apart.0 known scoped w (picks_left ws vs picks) h.0)
        (follow u (k + somes f) scope terms e g apart.1 known scoped w (picks_right ws vs picks) h.1)
    follow u k scope terms e (disjunction f g) apart known scoped w picks h =
        let ws = skolem_axioms symbols k scope terms f in
        let vs = skolem_axioms symbols (k + somes f) scope terms g in
        let uf = also (binders_of g) u in
        let ug = also (binders_of f) u in
        let sub_f = sub_also (binders_of g) u in
        let sub_g = sub_also (binders_of f) u in
        crossed_true m e (clauses_in symbols k scope terms f) (clauses_in symbols (k + somes f) scope terms g)
        ∙ true_from_ne_false (said_true e k scope terms f || said_true e (k + somes f) scope terms g) (λ x.
        let parts = or_parts (said_true e k scope terms f) (said_true e (k + somes f) scope terms g) x in
        h (
          λ y. true≢false (sym (follow uf k scope terms e f apart.0 (known_more u uf terms sub_f known) (in_more u uf scope sub_f scoped) w (picks_left ws vs picks) y) ∙ parts.0),
          λ y. true≢false (sym (follow ug (k + somes f) scope terms e g apart.1 (known_more u ug terms sub_g known) (in_more u ug scope sub_g scoped) w (picks_right ws vs picks) y) ∙ parts.1),
        ))
    follow u k scope terms e (forall x f) apart known scoped w picks h =
        follow (plus x u) k (scope ++ x ∷ []) terms e f apart.1 (known_more u (plus x u) terms (sub_plus x u) known) (in_pushed u scope x scoped) w picks
        (subst (λ d. Holds m d f) (sym (valued_var m u terms e x (e x) known apart.0) ∙ ap (λ d. valued m d terms) (own e x)) (h (e x) (w x)))
    follow u k scope terms e (exists x f) apart known scoped w picks h =
        let new = out_less u (plus x u) (binders_of f) (sub_plus x u) (out_of (plus x u) f apart.1) in
        let body = λ (n : ℕ). put_holds m u terms (with_var e x n) f known new ∙ ap (λ d. Holds m d f) (valued_var m u terms e x n known apart.0) in
        let element = m.function (slice_index symbols k) (map e scope) in
        true_from_ne_false (said_true e (k + 1) scope (with_term terms x (term_at k scope)) f) (λ no_clause. h (λ n i y.
        let picked_one = picks.0 e w n i (subst (λ A. A) (sym (body n)) y) in
        true≢false (sym (follow (plus x u) (k + 1) scope (with_term terms x (term_at k scope)) e f apart.1
        (known_term u terms scope x (slice_index symbols k) known scoped) (in_more u (plus x u) scope (sub_plus x u) scoped) w picks.1
        (subst (λ d. Holds m d f) (sym (picked terms e k scope x)) (subst (λ A. A) (body element) picked_one))) ∙ no_clause)))
