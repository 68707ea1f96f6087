use Rattle.ladr_top.proofs.Assumed.{names_assumed}
use Rattle.ladr_top.proofs.names.names_are_assumed.Goals as goal

pub returns : goal.returns
returns c = names_assumed c.distinct_means_different.ensures
