use Rattle.ladr_prover9.proofs.OneEnd.{asks_once, ends_once, runs_alike}
use Rattle.ladr_prover9.proofs.laws.one_end.Goals as goal

pub returns-clause-asks : goal.returns-clause-asks
returns-clause-asks c = asks_once c.one_outcome.ensures

pub returns-clause-once : goal.returns-clause-once
returns-clause-once c = ends_once c.searches_end_once.ensures c.ancestors_are_one.ensures.one

pub returns-clause-alike : goal.returns-clause-alike
returns-clause-alike c = runs_alike (asks_once c.one_outcome.ensures) (ends_once c.searches_end_once.ensures c.ancestors_are_one.ensures.one)
