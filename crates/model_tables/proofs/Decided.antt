-- Truth in finite tables is decided, so each Skolem symbol has least witnesses.
use Rattle.std.proofs.Common.{◌≡◌, inl, inr, ℕ, zero, suc, ◌+◌, ◌<◌, ◌≤◌, ◌==◌, Bool, IsTrue, List, [], ◌∷◌, ◌++◌, refl, sym, ◌∙◌, subst, arith}
use Rattle.std.specs.Prelude.{◌⊎◌, nat_le}
use Rattle.std.proofs.lemmas.Bool.{cases_Bool, cases_lt, eqb-true, eq-eqb, true≢false}
use Rattle.std.proofs.lemmas.Bool.Decides.{nat_tests}
use Rattle.fol_core.specs.Fol.{Fol, verum, falsum, equal, atom, negation, conjunction, disjunction, implication, equivalence, forall, exists}
use Rattle.fol_core.specs.Free.{closure_of}
use Rattle.fol_core.specs.SkolemAxioms.{SkolemAxiom}
use Rattle.fol_problem.specs.Stated.{Said, zero as all_zero, IsAsRoled, IsCountermodel}
use Rattle.fol_core.specs.Truth.{Assignment, with_var, value_of, values_of, Holds}
use Rattle.fol_problem.specs.declared.problem.Role.{Role}
use Rattle.fol_problem.specs.declared.problem.Role.TheVariants.{Assumption, Usable, Demodulator, Goal}
use Rattle.model_tables.proofs.Expanding.{within_below}
use Rattle.model_tables.proofs.Filling.{AreFilledTo, filled_none, filled_more, filled_all}
use Rattle.model_tables.proofs.Numbers.{digits_at}
use Rattle.model_tables.proofs.Setting.{bounds}
use Rattle.model_tables.specs.Digits.{digits_count}
use Rattle.model_tables.specs.Expansion.{assigned, IsWitness, IsLeastWitness, AreLeastWitnesses, with_values, IsExpansion}
use Rattle.model_tables.specs.Tables.{Finite, meaning_of}

abbrev pub Decided : Type 0 → Type 0
Decided P = P ⊎ ¬ P

pub decided_not : {P : Type 0} → Decided P → Decided (¬ P)
decided_not (inl h) = inr (λ denied. denied h)
decided_not (inr denied) = inl denied

pub decided_and : {P Q : Type 0} → Decided P → Decided Q → Decided (P × Q)
decided_and (inl h) (inl k) = inl (h, k)
decided_and (inl h) (inr denied) = inr (λ x. denied x.1)
decided_and (inr denied) q = inr (λ x. denied x.0)

pub decided_implies : {P Q : Type 0} → Decided P → Decided Q → Decided (P → Q)
decided_implies (inl h) (inl k) = inl (λ _. k)
decided_implies (inl h) (inr denied) = inr (λ f. denied (f h))
decided_implies (inr denied) q = inl (λ h. absurd (denied h))

decided_same : (a b : ℕ) → Decided (a ≡ b)
decided_same a b = elim (cases_Bool (a == b)) [
  | inl e ↦ inl (eqb-true a b e)
  | inr e ↦ inr (λ same. true≢false (sym (eq-eqb a b same) ∙ e))
]

decided_test : (b : Bool) → Decided (IsTrue b)
decided_test b = elim (cases_Bool b) [
  | inl e ↦ inl e
  | inr e ↦ inr (λ i. true≢false (sym i ∙ e))
]

-- the least number below n that has the property, or none has it
abbrev pub LeastBelow : (ℕ → Type 0) → ℕ → Type 0
LeastBelow P n = ((k : ℕ) → k < n → ¬ P k) ⊎ ((k : ℕ) × ((k < n) × P k × ((j : ℕ) → j < k → ¬ P j)))

pub least_below : (P : ℕ → Type 0) → ((k : ℕ) → Decided (P k)) → (n : ℕ) → LeastBelow P n
least_below P d zero = inl (λ k l. absurd (omega arith))
least_below P d (suc n) = elim (least_below P d n) [
  | inr h ↦ inr (h.0, (omega (arith, h.1.0), h.1.1, h.1.2))
  | inl before ↦ elim (d n) [
    | inl h ↦ inr (n, (omega arith, h, before))
    | inr denied ↦ inl (λ k l. elim (cases_lt k n) [
      | inl lt ↦ before k lt
      | inr ge ↦ (let e : n ≡ k = omega arith in subst (λ (j : ℕ). ¬ P j) e denied)
    ])
  ]
]

below_within : (top n : ℕ) → n < top + 1 → IsTrue (nat_le n top)
below_within top n h = grind (arith, nat_tests)

-- for all elements, by the elements below a number
decided_all : (top : ℕ) (P : ℕ → Type 0) → ((n : ℕ) → Decided (P n)) → Decided ((n : ℕ) → IsTrue (nat_le n top) → P n)
decided_all top P d = elim (least_below (λ n. ¬ P n) (λ n. decided_not (d n)) (top + 1)) [
  | inl never ↦ inl (λ n i. elim (d n) [
    | inl h ↦ h
    | inr denied ↦ (let less : n < top + 1 = omega (arith, within_below top n i) in absurd (never n less denied))
  ])
  | inr found ↦ inr (λ all. found.1.1 (all found.0 (below_within top found.0 found.1.0)))
]

pub decided_truth : (t : Finite) (e : Assignment) (f : Fol) → Decided (Holds (meaning_of t) e f)
decided_truth t e verum = inl tt
decided_truth t e falsum = inr (λ x. x)
decided_truth t e (equal a b) = decided_same (value_of (meaning_of t) e a) (value_of (meaning_of t) e b)
decided_truth t e (atom r ts) = decided_test ((meaning_of t).relation r (values_of (meaning_of t) e ts))
decided_truth t e (negation f) = decided_not (decided_truth t e f)
decided_truth t e (conjunction f g) = decided_and (decided_truth t e f) (decided_truth t e g)
decided_truth t e (disjunction f g) = decided_not (decided_and (decided_not (decided_truth t e f)) (decided_not (decided_truth t e g)))
decided_truth t e (implication f g) = decided_implies (decided_truth t e f) (decided_truth t e g)
decided_truth t e (equivalence f g) = decided_and (decided_implies (decided_truth t e f) (decided_truth t e g)) (decided_implies (decided_truth t e g) (decided_truth t e f))
decided_truth t e (forall x f) = decided_all t.top (λ n. Holds (meaning_of t) (with_var e x n) f) (λ n. decided_truth t (with_var e x n) f)
decided_truth t e (exists x f) = decided_not (decided_all t.top (λ n. ¬ Holds (meaning_of t) (with_var e x n) f) (λ n. decided_not (decided_truth t (with_var e x n) f)))

decided_role : (t : Finite) (role : Role) (f : Fol) → Decided (IsAsRoled (meaning_of t) role f)
decided_role t Assumption f = decided_truth t all_zero (closure_of f)
decided_role t Usable f = decided_truth t all_zero (closure_of f)
decided_role t Demodulator f = decided_truth t all_zero (closure_of f)
decided_role t Goal f = decided_not (decided_truth t all_zero (closure_of f))

pub decided_countermodel : (t : Finite) (ss : List Said) → Decided (IsCountermodel (meaning_of t) ss)
decided_countermodel t [] = inl tt
decided_countermodel t (s ∷ ss) = decided_and (decided_role t s.role s.formula) (decided_countermodel t ss)

-- a least witness, for one list of arguments and for the first so many
least_witness : (t : Finite) (e : Assignment) (w : SkolemAxiom) → (v : ℕ) × IsLeastWitness t e w v
least_witness t e w = elim (least_below (IsWitness t e w) (λ n. decided_truth t (with_var e w.variable n) w.body) (t.top + 1)) [
  | inl never ↦ (0, inr (refl, λ n l. never n (omega (arith, l))))
  | inr h ↦ (h.0, inl (omega (arith, h.1.0), h.1.1, h.1.2))
]

first_witnesses : (t : Finite) (w : SkolemAxiom) (k : ℕ) → k ≤ digits_count (bounds t w.variables) → (values : List ℕ) × AreFilledTo t w k values
first_witnesses t w zero h = ([], filled_none t w)
first_witnesses t w (suc k) h =
    let before = first_witnesses t w k (omega arith) in
    let digits = digits_at (bounds t w.variables) k (omega arith) in
    let v = least_witness t (assigned w.variables digits.0) w in
    let k_more : k + 1 ≡ suc k = omega arith in
    (before.0 ++ v.0 ∷ [], subst (λ (j : ℕ). AreFilledTo t w j (before.0 ++ v.0 ∷ [])) k_more (filled_more t w k before.0 digits.0 v.0 before.1 digits.1.0 digits.1.1 v.1))

least_witnesses : (t : Finite) (w : SkolemAxiom) → (values : List ℕ) × AreLeastWitnesses t w values
least_witnesses t w =
    let all = first_witnesses t w (digits_count (bounds t w.variables)) (omega arith) in
    (all.0, filled_all t w (digits_count (bounds t w.variables)) all.0 all.1 refl)

-- tables have an expansion
pub some_expansion : (t : Finite) (ws : List SkolemAxiom) → (u : Finite) × IsExpansion t ws u
some_expansion t [] = (t, refl)
some_expansion t (w ∷ ws) =
    let values = least_witnesses t w in
    let rest = some_expansion (with_values t w.symbol values.0) ws in
    (rest.0, (values.0, (values.1, rest.1)))
