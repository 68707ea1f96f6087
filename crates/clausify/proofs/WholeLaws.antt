-- The clauses of all formulas.
use Rattle.std.proofs.Common.{◌≡◌, ℕ, ◌+◌, Bool, true, false, not, ◌==◌, ◌||◌, ◌&&◌, if◌then◌else◌, IsTrue, List, [], ◌∷◌, ◌++◌, map, refl, sym, ap, ◌∙◌}
use Rattle.std.proofs.lemmas.Bool.{and_parts, and_from, false≢true, true≢false}
use Rattle.fol_core.specs.Tree.{var}
use Rattle.fol_core.specs.Fol.{Fol}
use Rattle.fol_core.specs.Bound.{BindsOnce, HasSymbolsBelow}
use Rattle.fol_core.specs.Free.{is_in, free_vars_of, closed_over, closure_of}
use Rattle.fol_core.specs.Literals.{ClauseTree, equality, is_true_clause}
use Rattle.fol_core.specs.Meaning.{Meaning, IsLawful}
use Rattle.fol_problem.specs.Stated.{Said, AreWellFormed, IsAsRoled, IsCountermodel}
use Rattle.fol_core.specs.Truth.{Assignment, IsWithin, Holds}
use Rattle.fol_core.specs.SkolemAxioms.{PicksWitnesses}
use Rattle.fol_problem.proofs.Soundness.{uses_closed}
use Rattle.fol_problem.specs.declared.problem.Role.{Role}
use Rattle.fol_problem.specs.declared.problem.Role.TheVariants.{Assumption, Usable, Demodulator, Goal}
use Rattle.fol_core.proofs.TruthLemmas.{stable, free_decide}
use Rattle.fol_core.proofs.Variables.{is_in_without}
use Rattle.fol_core.specs.Renumbered.{renumbered}
use Rattle.clausify.specs.Clausal.{clauses_in}
use Rattle.clausify.specs.Forms.{nnf_of}
use Rattle.clausify.specs.Input.{ClauseRow, form, is_taken, rows_from, axioms_from}
use Rattle.clausify.specs.Laws.{AreTrueRows}
use Rattle.clausify.specs.Skolem.{somes, skolem_axioms}
use Rattle.clausify.proofs.Claims.{suffice, follow, picks_left, picks_right}
use Rattle.clausify.proofs.Clauses.{IsApart, all_true}
use Rattle.clausify.proofs.FormSets.{apart_form, free_form}
use Rattle.clausify.proofs.FormTruth.{true_from, true_to, false_from, false_to}
use Rattle.substitutions.proofs.Numbering.{renumbered_true, true_renumbered}
use Rattle.clausify.proofs.Scopes.{known_none}
use Rattle.clausify.proofs.Sets.{Set}

-- the closure has no free variable
closed_free : (xs : List ℕ) (f : Fol) (y : ℕ) → is_in y (free_vars_of (closed_over xs f)) ≡ (is_in y (free_vars_of f) && not (is_in y xs))
closed_free [] f y = by (is_in y (free_vars_of f))
  where
    by : (b : Bool) → b ≡ (b && true)
    by true = refl
    by false = refl
closed_free (x ∷ xs) f y = is_in_without y x (free_vars_of (closed_over xs f)) ∙ ap (λ b. if y == x then false else b) (closed_free xs f y) ∙ by (y == x) (is_in y (free_vars_of f)) (is_in y xs)
  where
    by : (b c d : Bool) → (if b then false else (c && not d)) ≡ (c && not (b || d))
    by true true d = refl
    by true false d = refl
    by false c d = refl

closure_free : (f : Fol) (y : ℕ) → IsTrue (is_in y (free_vars_of (closure_of f))) → ⊥
closure_free f y i = by (is_in y (free_vars_of f)) (sym (closed_free (free_vars_of f) f y) ∙ i)
  where
    by : (b : Bool) → (b && not b) ≡ true → ⊥
    by true h = false≢true h
    by false h = false≢true h

abbrev empty : Set
empty y = false

pub apart_of : (sign : Bool) (f : Fol) → BindsOnce f → HasSymbolsBelow equality f → IsApart empty (nnf_of sign (closure_of f))
apart_of sign f once symbols = apart_form sign (closure_of f) empty once (λ y i. refl) (λ n i. symbols n (sym (uses_closed n (free_vars_of f) f) ∙ i))

pub free_of : (sign : Bool) (f : Fol) (y : ℕ) → IsTrue (is_in y (free_vars_of (nnf_of sign (closure_of f)))) → IsTrue (empty y)
free_of sign f y i = absurd (closure_free f y (free_form sign (closure_of f) y i))

module _ (m : Meaning) where
  abbrev pub AllTrue : List ClauseTree → Type 0
  AllTrue cs = (e : Assignment) → IsWithin m e → all_true m e cs ≡ true

  -- numbered clauses in front of others
  rows_true : (n : ℕ) (cs : List ClauseTree) (rows : List ClauseRow) → AreTrueRows m (map (λ c. (n, renumbered c)) cs ++ rows) → AllTrue cs × AreTrueRows m rows
  rows_true n [] rows h = (λ e w. refl, h)
  rows_true n (c ∷ cs) rows h =
      let rest = rows_true n cs rows h.1 in
      (λ e w. and_from (is_true_clause m e c) (all_true m e cs) (true_renumbered m c h.0 e w) (rest.0 e w), rest.1)

  true_rows : (n : ℕ) (cs : List ClauseTree) (rows : List ClauseRow) → AllTrue cs → AreTrueRows m rows → AreTrueRows m (map (λ c. (n, renumbered c)) cs ++ rows)
  true_rows n [] rows all h = h
  true_rows n (c ∷ cs) rows all h = (
    renumbered_true m c (λ e w. (and_parts (is_true_clause m e c) (all_true m e cs) (all e w)).0),
    true_rows n cs rows (λ e w. (and_parts (is_true_clause m e c) (all_true m e cs) (all e w)).1) h,
  )

  -- the truth of a closure is the same under each assignment
  closure_same : (d e : Assignment) (f : Fol) → Holds m d (closure_of f) → Holds m e (closure_of f)
  closure_same d e f h = (free_decide m d e (closure_of f) (λ y i. absurd (closure_free f y i))).0 h

  module _ (lawful : IsLawful m) (symbols : List ℕ) where
    abbrev some_element : Assignment
    some_element x = lawful.element.0

    abbrev zeros : Assignment
    zeros x = 0

    form_true : (sign : Bool) (k : ℕ) (f : Fol) → BindsOnce f → HasSymbolsBelow equality f → AllTrue (clauses_in symbols k [] var (nnf_of sign (closure_of f)))
        → ¬ ¬ Holds m some_element (nnf_of sign (closure_of f))
    form_true sign k f once below all wrong = suffice m symbols lawful empty k [] var some_element (nnf_of sign (closure_of f)) (apart_of sign f once below) (free_of sign f) known_none (λ y i. absurd (false≢true i))
        (λ x. lawful.element.1) wrong (λ d w a h. true≢false (sym (all d w) ∙ h))

    taken_suffices : (k : ℕ) (f : Fol) → BindsOnce f → HasSymbolsBelow equality f → AllTrue (clauses_in symbols k [] var (nnf_of true (closure_of f))) → Holds m zeros (closure_of f)
    taken_suffices k f once below all = stable m zeros (closure_of f) (λ no_closure.
        form_true true k f once below all (λ h. no_closure (closure_same some_element zeros f (true_from m some_element (closure_of f) h))))

    role_suffices : (k : ℕ) (role : Role) (f : Fol) → BindsOnce f → HasSymbolsBelow equality f → AllTrue (clauses_in symbols k [] var (nnf_of (is_taken role) (closure_of f))) → IsAsRoled m role f
    role_suffices k Assumption f once below all = taken_suffices k f once below all
    role_suffices k Usable f once below all = taken_suffices k f once below all
    role_suffices k Demodulator f once below all = taken_suffices k f once below all
    role_suffices k Goal f once below all = λ h. form_true false k f once below all (λ x. false_from m some_element (closure_of f) x (closure_same zeros some_element f h))

    pub all_suffice : (n k : ℕ) (ss : List Said) → AreWellFormed equality ss → AreTrueRows m (rows_from symbols n k ss) → IsCountermodel m ss
    all_suffice n k [] well_formed h = tt
    all_suffice n k (s ∷ ss) well_formed h =
        let parts = rows_true n (clauses_in symbols k [] var (form s)) (rows_from symbols (n + 1) (k + somes (form s)) ss) h in
        (role_suffices k s.role s.formula well_formed.0 well_formed.1 parts.0, all_suffice (n + 1) (k + somes (form s)) ss well_formed.2 parts.1)

    form_follows : (sign : Bool) (k : ℕ) (f : Fol) → BindsOnce f → HasSymbolsBelow equality f → PicksWitnesses m (skolem_axioms symbols k [] var (nnf_of sign (closure_of f)))
        → ((e : Assignment) → Holds m e (nnf_of sign (closure_of f))) → AllTrue (clauses_in symbols k [] var (nnf_of sign (closure_of f)))
    form_follows sign k f once below picks h e w = follow m symbols empty k [] var e (nnf_of sign (closure_of f)) (apart_of sign f once below) known_none (λ y i. absurd (false≢true i)) w picks (h e)

    taken_follows : (k : ℕ) (f : Fol) → BindsOnce f → HasSymbolsBelow equality f → PicksWitnesses m (skolem_axioms symbols k [] var (nnf_of true (closure_of f))) → Holds m zeros (closure_of f)
        → AllTrue (clauses_in symbols k [] var (nnf_of true (closure_of f)))
    taken_follows k f once below picks h = form_follows true k f once below picks (λ e. true_to m e (closure_of f) (closure_same zeros e f h))

    pub role_follows : (k : ℕ) (role : Role) (f : Fol) → BindsOnce f → HasSymbolsBelow equality f → PicksWitnesses m (skolem_axioms symbols k [] var (nnf_of (is_taken role) (closure_of f))) → IsAsRoled m role f
        → AllTrue (clauses_in symbols k [] var (nnf_of (is_taken role) (closure_of f)))
    role_follows k Assumption f once below picks h = taken_follows k f once below picks h
    role_follows k Usable f once below picks h = taken_follows k f once below picks h
    role_follows k Demodulator f once below picks h = taken_follows k f once below picks h
    role_follows k Goal f once below picks h = form_follows false k f once below picks (λ e. false_to m e (closure_of f) (λ x. h (closure_same e zeros f x)))

    pub all_follow : (n k : ℕ) (ss : List Said) → AreWellFormed equality ss → PicksWitnesses m (axioms_from symbols k ss) → IsCountermodel m ss → AreTrueRows m (rows_from symbols n k ss)
    all_follow n k [] well_formed picks h = tt
    all_follow n k (s ∷ ss) well_formed picks h = true_rows n (clauses_in symbols k [] var (form s)) (rows_from symbols (n + 1) (k + somes (form s)) ss)
        (role_follows k s.role s.formula well_formed.0 well_formed.1 (picks_left m symbols (skolem_axioms symbols k [] var (form s)) (axioms_from symbols (k + somes (form s)) ss) picks) h.0)
        (all_follow (n + 1) (k + somes (form s)) ss well_formed.2 (picks_right m symbols (skolem_axioms symbols k [] var (form s)) (axioms_from symbols (k + somes (form s)) ss) picks) h.1)
