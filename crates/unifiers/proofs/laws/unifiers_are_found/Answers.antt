use Rattle.unifiers.proofs.Found.{most_general, none_there}
use Rattle.unifiers.proofs.laws.unifiers_are_found.Goals as goal

pub returns-clause-general : goal.returns-clause-general
returns-clause-general c = most_general

pub returns-clause-there : goal.returns-clause-there
returns-clause-there c = none_there
