-- What the formulas and the weights of each file are.
use Rattle.std.specs.Prelude.{ℕ, ◌≡◌, ◌≤◌, true, List}
use Rattle.std.specs.List.{AllByRecursion}
use Rattle.fol_core.specs.Fol.{Fol}
use Rattle.fol_problem.specs.Stated.{Said}
use Rattle.fol_problem.specs.declared.problem.Role.{Role}
use Rattle.fol_problem.specs.declared.problem.Role.TheVariants.{Assumption, Usable, Demodulator, Goal}
use Rattle.ladr_problem.specs.Sofar.{Sofar, said_in}
use Rattle.ladr_rules.specs.Shapes.{is_demodulator}

-- what is listed as a demodulator is one
abbrev pub IsFitAs : Role → Fol → Type 0
IsFitAs Assumption f = Unit {0}
IsFitAs Usable f = Unit {0}
IsFitAs Demodulator f = is_demodulator f ≡ true
IsFitAs Goal f = Unit {0}

abbrev pub AreFit : List Said → Type 0
AreFit ss = AllByRecursion (λ s. IsFitAs s.role s.formula) ss

-- each name weighs at least 1
abbrev pub AreHeavy : List (List ℕ × ℕ) → Type 0
AreHeavy weights = AllByRecursion (λ w. 1 ≤ w.1) weights

pub record IsFitFile (s : Sofar) : Type 0 where
  pub formulas : AreFit (said_in s)
  pub weights : AreHeavy s.kbo_weights
