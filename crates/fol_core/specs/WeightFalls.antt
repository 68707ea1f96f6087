-- Each part is smaller than its weight.
use Rattle.std.specs.Prelude.{◌≤◌, max}
use Rattle.std.proofs.Common.{arith}
use Rattle.fol_core.specs.Weights.{weight_nodes}
use Rattle.fol_core.specs.WeightView.{weight_of}
use Rattle.fol_core.specs.declared.weights.Weight.{Weight}
use Rattle.fol_core.specs.declared.weights.Weight.TheVariants.{Number, Variable, Sum, Product}
use Rattle.fol_core.specs.declared.weights.WeightSub.TheDeep.{deep-Weight}

pub weight_falls : (w : Weight) → max (deep-Weight w) 0 ≤ weight_nodes (weight_of w)
weight_falls (Number n) = omega arith
weight_falls (Variable x) = omega arith
weight_falls (Sum v w) = omega arith
weight_falls (Product v w) = omega arith
