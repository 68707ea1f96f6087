use Rattle.unifiers.proofs.Agreement.{agree}
use Rattle.unifiers.proofs.laws.conclusions_agree.Goals as goal

pub returns : goal.returns
returns c = agree
