use Rattle.plain_search.proofs.Reaching.{leaves_reach}
use Rattle.plain_search.proofs.laws.leaves_reach_all.Goals as goal

pub returns : goal.returns
returns c = leaves_reach
