use Rattle.ladr_problem.proofs.Once.{says_once}
use Rattle.ladr_problem.proofs.laws.one_outcome.Goals as goal

pub returns : goal.returns
returns _ = says_once
