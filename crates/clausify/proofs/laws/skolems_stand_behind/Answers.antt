use Rattle.clausify.proofs.Behind.{stand_behind}
use Rattle.clausify.proofs.laws.skolems_stand_behind.Goals as goal

pub returns : goal.returns
returns _ = stand_behind
