use Rattle.answers.proofs.Prefix.{numbered_is}
use Rattle.answers.proofs.laws.literals_stay.Goals as goal

pub returns : goal.returns
returns c = numbered_is
