use Rattle.std.proofs.Common.{◌≡◌, ℕ, zero, suc, [], ◌∷◌, IsTrue, refl, arith, rules}
use Rattle.std.specs.Prelude.{◌==◌, nat_le}
use Rattle.std.proofs.lemmas.Bool.{false≢true}
use Rattle.std.proofs.lemmas.Bool.Decides.{nat_tests}
use Rattle.mace_search.specs.Worked.{spared, tables, single}
use Rattle.model_tables.specs.Size.{AllBelow, IsInterpretation}
use Rattle.model_tables.specs.Tables.{listed_value}
use Rattle.mace_search.proofs.laws.worked.Goals as goal

interpretation : (x y z : ℕ) → AllBelow 2 (x ∷ y ∷ z ∷ []) → IsInterpretation 2 spared (tables x y z)
interpretation x y z h = (refl, ((refl, refl, (h.0, tt)), ((refl, refl, h.1), tt)))

-- where `p` holds of no element
empty : (x n : ℕ) → IsTrue (nat_le n 1) → ¬ IsTrue (listed_value (tables x 0 0) 1 (n ∷ []) == 1)
empty x zero w = false≢true
empty x (suc zero) w = false≢true
empty x (suc (suc n)) w = absurd (grind (arith, nat_tests, w))

nowhere : (n : ℕ) → IsTrue (nat_le n 0) → ¬ IsTrue (listed_value (single 0) 1 (n ∷ []) == 1)
nowhere zero w = false≢true
nowhere (suc n) w = absurd (grind (arith, nat_tests, w))

pub returns-clause-models : goal.returns-clause-models
returns-clause-models c = ((interpretation 0 0 1 (search rules), (λ h. h 1 refl refl, (false≢true, tt))), (interpretation 1 1 0 (search rules), (λ h. h 0 refl refl, (false≢true, tt))))

pub returns-clause-empty : goal.returns-clause-empty
returns-clause-empty c = λ m. m.1.0 (empty 0)

pub returns-clause-spoiled : goal.returns-clause-spoiled
returns-clause-spoiled c = (λ m. m.1.1.0 refl, λ m. m.1.1.0 refl)

pub returns-clause-beyond : goal.returns-clause-beyond
returns-clause-beyond c = λ m. absurd (omega (arith, m.0.1.0.2.0))

pub returns-clause-alone : goal.returns-clause-alone
returns-clause-alone c = (λ m. m.1.0 nowhere, λ m. m.1.1.0 refl)
