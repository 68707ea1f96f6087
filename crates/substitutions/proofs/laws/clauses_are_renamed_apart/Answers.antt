use Rattle.substitutions.proofs.Interleaving.{interleaving_is_apart}
use Rattle.substitutions.proofs.laws.clauses_are_renamed_apart.Goals as goal

pub returns : goal.returns
returns c = interleaving_is_apart
