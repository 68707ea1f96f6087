use Rattle.plain_search.proofs.Ending.{leaves_are_models, leaves_are_full}
use Rattle.plain_search.proofs.laws.leaves_are_models.Goals as goal

pub returns-clause-models : goal.returns-clause-models
returns-clause-models c = leaves_are_models

pub returns-clause-full : goal.returns-clause-full
returns-clause-full c = leaves_are_full
