use Rattle.ladr_problem.proofs.Good.{grown_proper}
use Rattle.ladr_problem.proofs.laws.problems_are_proper.Goals as goal

pub returns : goal.returns
returns _ = grown_proper
