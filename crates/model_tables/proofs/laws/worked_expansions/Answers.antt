use Rattle.std.proofs.Common.{◌≡◌, ◌+◌, ◌<◌, ℕ, zero, suc, inl, inr, IsTrue, List, [], ◌∷◌, length, slice_index, refl, sym, arith}
use Rattle.std.specs.Prelude.{nat_le}
use Rattle.std.proofs.Math.Nat.{pow-zero}
use Rattle.std.proofs.lemmas.Bool.{false≢true}
use Rattle.std.proofs.lemmas.Bool.Decides.{nat_tests}
use Rattle.fol_core.specs.Fol.{Fol, atom, negation, equal}
use Rattle.fol_core.specs.Tree.{var, none, more}
use Rattle.fol_core.specs.SkolemAxioms.{SkolemAxiom}
use Rattle.model_tables.specs.Expansion.{assigned, IsWitness, IsLeastWitness, AreLeastWitnesses, with_values}
use Rattle.model_tables.specs.Size.{AllBelow}
use Rattle.model_tables.specs.Tables.{Finite, place_from}
use Rattle.model_tables.specs.Worked.{tables, one, single, other}
use Rattle.model_tables.proofs.laws.worked_expansions.Goals as goal

abbrev constant : ℕ → ℕ → Fol → SkolemAxiom
constant s y f = record { symbol = s; variables = []; variable = y; body = f }

-- one value, where there are no arguments
alone : (t : Finite) (s y : ℕ) (f : Fol) (v : ℕ) → IsLeastWitness t (λ x. 0) (constant s y f) v → AreLeastWitnesses t (constant s y f) (v ∷ [])
alone t s y f v least = (sym (pow-zero (t.top + 1)), each)
  where
    each : (ns : List ℕ) → length ns ≡ 0 → AllBelow (t.top + 1) ns → IsLeastWitness t (assigned [] ns) (constant s y f) (slice_index (v ∷ []) (place_from (t.top + 1) 0 ns))
    each [] h below = least
    each (n ∷ ns) h below = absurd (omega arith)

only_zero : (n : ℕ) → IsTrue (nat_le n 0) → 0 ≡ n
only_zero n h = grind (arith, nat_tests)

pub returns-clause-single : goal.returns-clause-single
returns-clause-single c = (0 ∷ [], (alone (one []) 0 0 single.body 0 (inl (omega arith, only_zero, λ n l. absurd (omega arith))), refl))

-- before the third element none has the property
not_before : (n : ℕ) → n < 2 → ¬ IsWitness (tables 0 1) (λ x. 0) (constant 4 1 (atom 3 (more (var 1) none))) n
not_before zero l = false≢true
not_before (suc zero) l = false≢true
not_before (suc (suc n)) l = absurd (omega arith)

second : Finite
second = with_values (tables 0 1) 4 (2 ∷ [])

others : AreLeastWitnesses second (other 5) (1 ∷ 0 ∷ 0 ∷ [])
unfolding second
others = (refl, each)
  where
    each : (ns : List ℕ) → length ns ≡ 1 → AllBelow 3 ns → IsLeastWitness second (assigned (0 ∷ []) ns) (other 5) (slice_index (1 ∷ 0 ∷ 0 ∷ []) (place_from 3 0 ns))
    each [] h below = absurd (omega arith)
    each (m ∷ n ∷ ns) h below = absurd (omega arith)
    each (zero ∷ []) h below = inl (omega arith, λ (e : 1 ≡ 0). absurd (omega (arith, e)), first)
      where
        first : (n : ℕ) → n < 1 → ¬ ¬ (n ≡ 0)
        first zero l w = w refl
        first (suc n) l w = absurd (omega arith)
    each (suc zero ∷ []) h below = inl (omega arith, λ (e : 0 ≡ 1). absurd (omega (arith, e)), λ n l. absurd (omega arith))
    each (suc (suc zero) ∷ []) h below = inl (omega arith, λ (e : 0 ≡ 2). absurd (omega (arith, e)), λ n l. absurd (omega arith))
    each (suc (suc (suc n)) ∷ []) h below = absurd (omega (arith, below.0))

pub returns-clause-seekers : goal.returns-clause-seekers
unfolding second
returns-clause-seekers c = (
  2 ∷ [],
  (
    alone (tables 0 1) 4 1 (atom 3 (more (var 1) none)) 2 (inl (omega arith, refl, not_before)),
    (1 ∷ 0 ∷ 0 ∷ [], (others, (0 ∷ [], (alone (with_values second 5 (1 ∷ 0 ∷ 0 ∷ [])) 6 1 (negation (equal (var 1) (var 1))) 0 (inr (refl, λ n l w. w refl)), refl)))),
  ),
)
