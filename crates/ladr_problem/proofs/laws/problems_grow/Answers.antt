use Rattle.ladr_problem.proofs.Growing.{says_grows}
use Rattle.ladr_problem.proofs.laws.problems_grow.Goals as goal

pub returns : goal.returns
returns _ = says_grows
