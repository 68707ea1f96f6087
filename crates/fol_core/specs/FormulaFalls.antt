-- Each part is smaller than its formula.
use Rattle.std.specs.Prelude.{◌≤◌, max}
use Rattle.std.proofs.Common.{arith}
use Rattle.fol_core.specs.Fol.{folds}
use Rattle.fol_core.specs.FormulaView.{fol_of}
use Rattle.fol_core.specs.declared.formula.Shape.{Shape}
use Rattle.fol_core.specs.declared.formula.Shape.TheVariants.{True, False, Eq, Atom, Not, And, Or, If, Iff, All, Exists}
use Rattle.fol_core.specs.declared.formula.Sub.TheDeep.{deep-Shape}

pub shape_falls : (f : Shape) → max (deep-Shape f) 0 ≤ folds (fol_of f)
shape_falls True = omega arith
shape_falls False = omega arith
shape_falls (Eq sides) = omega arith
shape_falls (Atom r ts) = omega arith
shape_falls (Not f) = omega arith
shape_falls (And f g) = omega arith
shape_falls (Or f g) = omega arith
shape_falls (If f g) = omega arith
shape_falls (Iff f g) = omega arith
shape_falls (All x f) = omega arith
shape_falls (Exists x f) = omega arith
