use Rattle.fol_core.specs.RawTree.{raw_nodes}
use Rattle.fol_core.specs.RawView.{raw_of}
use Rattle.ladr_formulas.proofs.formulas.+any_formula.Given as goal

abbrev pub decreases-any_formula : goal.decreases-any_formula
decreases-any_formula l = raw_nodes (raw_of l.raw)
