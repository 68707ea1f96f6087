use Rattle.fol_core.proofs.TruthLemmas.{free_decide}
use Rattle.fol_core.proofs.laws.free_variables_decide.Goals as goal

pub returns : goal.returns
returns c = free_decide
