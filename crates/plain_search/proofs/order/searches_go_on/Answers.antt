use Rattle.plain_search.proofs.Coming.{all_is_to_come, leaves_are_found, search_goes_on}
use Rattle.plain_search.proofs.order.searches_go_on.Goals as goal

pub returns-clause-leaves : goal.returns-clause-leaves
returns-clause-leaves c = leaves_are_found

pub returns-clause-all : goal.returns-clause-all
returns-clause-all c = all_is_to_come

pub returns-clause-steps : goal.returns-clause-steps
returns-clause-steps c = search_goes_on
