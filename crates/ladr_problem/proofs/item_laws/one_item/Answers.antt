use Rattle.ladr_problem.proofs.EndLemmas.{one}
use Rattle.ladr_problem.proofs.item_laws.one_item.Goals as goal

pub returns : goal.returns
returns c = one
