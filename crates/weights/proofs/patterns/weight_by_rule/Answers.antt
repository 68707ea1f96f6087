-- There are as many weights as terms.
use Rattle.std.proofs.Common.{◌∙◌, ap, length, map}
use Rattle.fol_core.specs.Tree.{trees_of}
use Rattle.weights.specs.Rows.{weight_row}
use Rattle.weights.specs.Weighing.{term_weight}
use Rattle.weights.proofs.Listed.{listed_length}
use Rattle.weights.proofs.patterns.weight_by_rule.Goals as goal

pub pattern_weight-requires : goal.pattern_weight-requires
pattern_weight-requires c = ap length c.requires.listed ∙ listed_length (term_weight (map weight_row c.args.rules.now)) (trees_of c.args.terms.now)
