-- The rules of the code.
use Rattle.fol_core.specs.Tree.{trees_of}
use Rattle.fol_core.specs.WeightView.{weight_of}
use Rattle.weights.specs.Weighing.{WeightRow}
use Rattle.weights.specs.declared.patterns.PatternWeight.{PatternWeight}

abbrev pub weight_row : PatternWeight → WeightRow
weight_row p = record {
  head = p.head.0;
  arguments = trees_of p.arguments.now;
  weight = weight_of p.weight.now;
}
