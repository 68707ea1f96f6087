-- The cells of the symbols of a problem, symbol by symbol.
use Rattle.std.proofs.Common.{List, map}
use Rattle.fol_core.specs.Fol.{Fol}
use Rattle.fol_problem.specs.Stated.{all_said}
use Rattle.fol_problem.specs.declared.problem.Input.{Input}

-- the formulas of inputs
abbrev pub fols : List Input → List Fol
fols inputs = map (λ s. s.formula) (all_said inputs)
