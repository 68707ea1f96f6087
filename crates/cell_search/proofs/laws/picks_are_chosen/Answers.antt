use Rattle.cell_search.proofs.Choosing.{none_is_chosen, picked_is_chosen}
use Rattle.cell_search.proofs.laws.picks_are_chosen.Goals as goal

pub returns-clause-picked : goal.returns-clause-picked
returns-clause-picked c = picked_is_chosen

pub returns-clause-none : goal.returns-clause-none
returns-clause-none c = none_is_chosen
