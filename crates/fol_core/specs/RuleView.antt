-- The rules of the code.
use Rattle.fol_core.specs.Tree.{trees_of}
use Rattle.fol_core.specs.Weights.{Rule}
use Rattle.fol_core.specs.WeightView.{weight_of}
use Rattle.fol_core.specs.declared.weights.WeightRule.{WeightRule}

abbrev pub rule_of : WeightRule → Rule
rule_of r = record { head = r.head; arguments = trees_of r.arguments; weight = weight_of r.weight }
