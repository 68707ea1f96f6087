-- the parts become fewer
use Rattle.std.proofs.Common.{length}
use Rattle.ladr_distinct.proofs.formula.+halved.Given as goal

abbrev pub decreases-halved : goal.decreases-halved
decreases-halved l = length l.parts.items
