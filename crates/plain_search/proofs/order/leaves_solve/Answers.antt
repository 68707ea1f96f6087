use Rattle.plain_search.proofs.Solving as solving
use Rattle.plain_search.proofs.order.leaves_solve.Goals as goal

pub returns : goal.returns
returns c = solving.leaves_solve
