use Rattle.derivation_laws.proofs.MovedTables.{refutation_read}
use Rattle.derivation_laws.proofs.laws.refutations_are_read.Goals as goal

pub returns : goal.returns
returns _ = refutation_read
