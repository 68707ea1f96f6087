use Rattle.plain_search.proofs.Waking.{look_suffices, stays_told, told_by_values}
use Rattle.plain_search.proofs.order.looks_suffice.Goals as goal

pub returns-clause-stays : goal.returns-clause-stays
returns-clause-stays c = stays_told

pub returns-clause-values : goal.returns-clause-values
returns-clause-values c = told_by_values

pub returns-clause-looks : goal.returns-clause-looks
returns-clause-looks c = look_suffices
