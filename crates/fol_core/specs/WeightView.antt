-- The weights of the code.
use Rattle.fol_core.specs.Weights.{WeightTree, number, of_variable, plus, times}
use Rattle.fol_core.specs.declared.weights.Weight.{Weight}
use Rattle.fol_core.specs.declared.weights.Weight.TheVariants.{Number, Variable, Sum, Product}

abbrev pub weight_of : Weight → WeightTree
weight_of (Number n) = number n
weight_of (Variable x) = of_variable x
weight_of (Sum v w) = plus v w
weight_of (Product v w) = times v w
