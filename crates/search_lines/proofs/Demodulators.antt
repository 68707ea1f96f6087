-- The clause of a demodulator is a rule, however its variables are numbered.
use Rattle.std.proofs.Common.{◌≡◌, ℕ, Bool, true, false, ◌==◌, ◌&&◌, ◌||◌, not, List, [], ◌∷◌, ◌++◌, refl, sym, ap, ap₂, ◌∙◌}
use Rattle.std.proofs.lemmas.Bool.{eqb-true, eq-eqb, false≢true, or_left, or_right}
use Rattle.std.specs.List.{list_all}
use Rattle.clausify.specs.Clausal.{clauses_in}
use Rattle.clausify.specs.Forms.{nnf_of}
use Rattle.derivation.specs.Equations.{equation}
use Rattle.fol_core.specs.Fol.{Fol, verum, falsum, equal, atom, negation, conjunction, disjunction, implication, equivalence, forall, exists}
use Rattle.fol_core.specs.Free.{is_in, variables_of, closed_over, closure_of, free_vars_of}
use Rattle.fol_core.specs.Literals.{literal, ClauseTree}
use Rattle.fol_core.specs.Renumbered.{clause_variables, place_in, renumbered}
use Rattle.fol_core.specs.Substitutions.{substitute, substitute_all}
use Rattle.fol_core.specs.Tree.{Tree, var, elem, app, Trees, none, more}
use Rattle.ladr_rules.specs.Shapes.{is_variable_tree, is_demodulator}
use Rattle.prover_steps.specs.Rewriting.{is_rule_clause}
use Rattle.substitutions.proofs.Composing.{substitute_variables, has_listed}
use Rattle.substitutions.specs.Occurring.{has_variable, have_variable}

-- a test that holds of each number of a list holds of those in it, and the other way round
of_all : (p : ℕ → Bool) (xs : List ℕ) (x : ℕ) → list_all p xs ≡ true → is_in x xs ≡ true → p x ≡ true
of_all p [] x all i = absurd (false≢true i)
of_all p (y ∷ ys) x all i = by (x == y) refl (p y) refl all i (of_all p ys x)
  where
    by : (b : Bool) → (x == y) ≡ b → (a : Bool) → p y ≡ a → (a && list_all p ys) ≡ true → (b || is_in x ys) ≡ true → (list_all p ys ≡ true → is_in x ys ≡ true → p x ≡ true) → p x ≡ true
    by b e false h all i rest = absurd (false≢true all)
    by true e true h all i rest = ap p (eqb-true x y e) ∙ h
    by false e true h all i rest = rest all i

all_of : (p : ℕ → Bool) (xs : List ℕ) → ((x : ℕ) → is_in x xs ≡ true → p x ≡ true) → list_all p xs ≡ true
all_of p [] each = refl
all_of p (y ∷ ys) each =
    ap (λ b. b && list_all p ys) (each y (or_left (y == y) (is_in y ys) (eq-eqb y y refl)))
    ∙ all_of p ys (λ x i. each x (or_right (x == y) (is_in x ys) i))

-- each variable of a renamed term is one that was renamed, and each is renamed
module _ (p : ℕ → ℕ) where
  record WasRenamed (has : ℕ → Bool) (x : ℕ) : Type 0 where
    number : ℕ
    there : has number ≡ true
    is : x ≡ p number

  -- among terms, by the first and by the others
  among : (x : ℕ) (t : Tree) (ts : Trees) (b : Bool) → has_variable x (substitute (λ y. var (p y)) t) ≡ b → (b || have_variable x (substitute_all (λ y. var (p y)) ts)) ≡ true
      → (has_variable x (substitute (λ y. var (p y)) t) ≡ true → WasRenamed (λ y. has_variable y t) x)
      → (have_variable x (substitute_all (λ y. var (p y)) ts) ≡ true → WasRenamed (λ y. have_variable y ts) x) → WasRenamed (λ y. have_variable y (more t ts)) x
  among x t ts true e h first others = let w = first e in record { number = w.number; there = or_left (has_variable w.number t) (have_variable w.number ts) w.there; is = w.is }
  among x t ts false e h first others = let w = others h in record { number = w.number; there = or_right (has_variable w.number t) (have_variable w.number ts) w.there; is = w.is }

  amid : (x : ℕ) (t : Tree) (ts : Trees) (b : Bool) → has_variable x t ≡ b → (b || have_variable x ts) ≡ true
      → (has_variable x t ≡ true → has_variable (p x) (substitute (λ y. var (p y)) t) ≡ true)
      → (have_variable x ts ≡ true → have_variable (p x) (substitute_all (λ y. var (p y)) ts) ≡ true)
      → have_variable (p x) (substitute_all (λ y. var (p y)) (more t ts)) ≡ true
  amid x t ts true e h first others = or_left (has_variable (p x) (substitute (λ y. var (p y)) t)) (have_variable (p x) (substitute_all (λ y. var (p y)) ts)) (first e)
  amid x t ts false e h first others = or_right (has_variable (p x) (substitute (λ y. var (p y)) t)) (have_variable (p x) (substitute_all (λ y. var (p y)) ts)) (others h)

  mutual
    renamed_from : (x : ℕ) (t : Tree) → has_variable x (substitute (λ y. var (p y)) t) ≡ true → WasRenamed (λ y. has_variable y t) x
    renamed_from x (var y) h = record { number = y; there = eq-eqb y y refl; is = eqb-true x (p y) h }
    renamed_from x (elem k) h = absurd (false≢true h)
    renamed_from x (app f ts) h = all_renamed_from x ts h

    all_renamed_from : (x : ℕ) (ts : Trees) → have_variable x (substitute_all (λ y. var (p y)) ts) ≡ true → WasRenamed (λ y. have_variable y ts) x
    all_renamed_from x none h = absurd (false≢true h)
    all_renamed_from x (more t ts) h = among x t ts (has_variable x (substitute (λ y. var (p y)) t)) refl h (renamed_from x t) (all_renamed_from x ts)

  mutual
    renamed_to : (x : ℕ) (t : Tree) → has_variable x t ≡ true → has_variable (p x) (substitute (λ y. var (p y)) t) ≡ true
    renamed_to x (var y) h = eq-eqb (p x) (p y) (ap p (eqb-true x y h))
    renamed_to x (elem k) h = absurd (false≢true h)
    renamed_to x (app f ts) h = all_renamed_to x ts h

    all_renamed_to : (x : ℕ) (ts : Trees) → have_variable x ts ≡ true → have_variable (p x) (substitute_all (λ y. var (p y)) ts) ≡ true
    all_renamed_to x none h = absurd (false≢true h)
    all_renamed_to x (more t ts) h = amid x t ts (has_variable x t) refl h (renamed_to x t) (all_renamed_to x ts)

  still_covered : (s t : Tree) → list_all (λ x. is_in x (variables_of s)) (variables_of t) ≡ true
      → list_all (λ x. has_variable x (substitute (λ y. var (p y)) s)) (variables_of (substitute (λ y. var (p y)) t)) ≡ true
  still_covered s t all = all_of (λ x. has_variable x (substitute (λ y. var (p y)) s)) (variables_of (substitute (λ y. var (p y)) t)) (λ x i.
      let w = renamed_from x t (has_listed x (substitute (λ y. var (p y)) t) ∙ i) in
      let h : has_variable w.number s ≡ true = has_listed w.number s ∙ of_all (λ y. is_in y (variables_of s)) (variables_of t) w.number all (sym (has_listed w.number t) ∙ w.there) in
      ap (λ y. has_variable y (substitute (λ y. var (p y)) s)) w.is ∙ renamed_to w.number s h)

-- the one clause of a closed equation
equation_clause : (symbols : List ℕ) (k : ℕ) (scope xs : List ℕ) (s t : Tree) → clauses_in symbols k scope var (nnf_of true (closed_over xs (equal s t))) ≡ (literal true (equation s t) ∷ []) ∷ []
equation_clause symbols k scope [] s t = ap₂ (λ a b. (literal true (equation a b) ∷ []) ∷ []) (substitute_variables s) (substitute_variables t)
equation_clause symbols k scope (x ∷ xs) s t = equation_clause symbols k (scope ++ x ∷ []) xs s t

equation_rule : (s t : Tree) → is_demodulator (equal s t) ≡ true → is_rule_clause (renumbered (literal true (equation s t) ∷ [])) ≡ true
equation_rule s t fit = by (is_variable_tree s) fit
  where
    by : (b : Bool) → (not b && list_all (λ x. is_in x (variables_of s)) (variables_of t)) ≡ true → is_rule_clause (renumbered (literal true (equation s t) ∷ [])) ≡ true
    by true h = absurd (false≢true h)
    by false h = still_covered (place_in (clause_variables (literal true (equation s t) ∷ []))) s t h

-- each clause of a demodulator is a rule
pub demodulator_rule : (symbols : List ℕ) (k : ℕ) (f : Fol) → is_demodulator f ≡ true → (c : ClauseTree) × (clauses_in symbols k [] var (nnf_of true (closure_of f)) ≡ c ∷ []) × (is_rule_clause (renumbered c) ≡ true)
demodulator_rule symbols k (equal s t) fit = (literal true (equation s t) ∷ [], equation_clause symbols k [] (free_vars_of (equal s t)) s t, equation_rule s t fit)
demodulator_rule symbols k verum fit = absurd (false≢true fit)
demodulator_rule symbols k falsum fit = absurd (false≢true fit)
demodulator_rule symbols k (atom r ts) fit = absurd (false≢true fit)
demodulator_rule symbols k (negation f) fit = absurd (false≢true fit)
demodulator_rule symbols k (conjunction f g) fit = absurd (false≢true fit)
demodulator_rule symbols k (disjunction f g) fit = absurd (false≢true fit)
demodulator_rule symbols k (implication f g) fit = absurd (false≢true fit)
demodulator_rule symbols k (equivalence f g) fit = absurd (false≢true fit)
demodulator_rule symbols k (forall x f) fit = absurd (false≢true fit)
demodulator_rule symbols k (exists x f) fit = absurd (false≢true fit)
