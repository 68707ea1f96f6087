use Rattle.derivation_laws.proofs.MovedLines.{refutation_moved}
use Rattle.derivation_laws.proofs.laws.refutations_are_moved.Goals as goal

pub returns : goal.returns
returns _ = refutation_moved
