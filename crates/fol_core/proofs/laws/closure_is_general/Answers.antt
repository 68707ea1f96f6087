use Rattle.fol_core.proofs.TruthLemmas.{closure_general}
use Rattle.fol_core.proofs.laws.closure_is_general.Goals as goal

pub returns : goal.returns
returns c = closure_general
