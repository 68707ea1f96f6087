use Rattle.derivation_laws.proofs.Leaving.{leave_none}
use Rattle.derivation_laws.proofs.laws.refuted_have_none.Goals as goal

pub returns : goal.returns
returns c = leave_none c.no_countermodel.ensures
