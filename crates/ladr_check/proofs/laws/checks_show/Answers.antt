use Rattle.ladr_check.proofs.Showing.{checks_show}
use Rattle.ladr_check.proofs.laws.checks_show.Goals as goal

pub returns-clause-show : goal.returns-clause-show
returns-clause-show c = checks_show c.one_refutation_suffices.ensures c.refutations_answer.ensures c.offers_are_alone.ensures
