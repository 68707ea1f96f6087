use Rattle.std.proofs.Common.{◌≡◌, ℕ, zero, suc, true, refl, arith, leb}
use Rattle.std.proofs.lemmas.Bool.{leb-true}
use Rattle.std.specs.Fmt.{digits}
use Rattle.ladr_interpretations.specs.NamedText.{named_text}
use Rattle.ladr_clausetester.proofs.laws.worked.Goals as goal

pub returns-clause-printed : goal.returns-clause-printed
unfolding digits
returns-clause-printed c = refl

pub returns-clause-several : goal.returns-clause-several
unfolding digits
returns-clause-several c = refl

pub returns-clause-filtered : goal.returns-clause-filtered
unfolding digits named_text
returns-clause-filtered c = refl

-- what holds of 0 and 1 holds of each element of two
each : (P : ℕ → Type 0) → P 0 → P 1 → (n : ℕ) → leb n 1 ≡ true → P n
each P a b zero w = a
each P a b (suc zero) w = b
each P a b (suc (suc n)) w = absurd (omega (arith, leb-true _ _ w))

pub returns-clause-told : goal.returns-clause-told
returns-clause-told c = (each _ refl refl, (λ some. some (each _ (λ e. absurd cc) (λ e. absurd cc)), tt))

pub returns-clause-free : goal.returns-clause-free
returns-clause-free c = (each _ (each _ refl refl) (each _ refl refl), (λ all. all 1 refl (each _ (λ e. absurd cc) (λ e. absurd cc)), tt))
