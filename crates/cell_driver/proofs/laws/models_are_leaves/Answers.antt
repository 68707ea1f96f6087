use Rattle.cell_driver.proofs.Leaving.{models_all, models_first}
use Rattle.cell_driver.proofs.laws.models_are_leaves.Goals as goal

pub returns-clause-first : goal.returns-clause-first
returns-clause-first c = models_first

pub returns-clause-all : goal.returns-clause-all
returns-clause-all c = models_all
