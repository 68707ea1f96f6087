use Rattle.plain_search.proofs.Stopping.{closure_is_closed}
use Rattle.plain_search.proofs.laws.closure_is_closed.Goals as goal

pub returns : goal.returns
returns c = closure_is_closed
