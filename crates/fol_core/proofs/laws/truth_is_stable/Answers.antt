use Rattle.fol_core.proofs.TruthLemmas.{stable}
use Rattle.fol_core.proofs.laws.truth_is_stable.Goals as goal

pub returns : goal.returns
returns c = stable
