use Rattle.ladr_check.proofs.OneOutcome.{ends_once}
use Rattle.ladr_check.proofs.laws.one_end.Goals as goal

pub returns : goal.returns
returns c = ends_once c.fault_is_one_with.ensures.none c.fault_is_one_with.ensures.one
