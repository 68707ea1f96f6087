use Rattle.std.proofs.Common.{refl}
use Rattle.std.specs.Fmt.{digits}
use Rattle.model_tables.specs.ModelText.{model_text}
use Rattle.model_tables.proofs.Exchange.{exchanged}
use Rattle.model_tables.proofs.laws.worked.Goals as goal

pub returns-clause-text : goal.returns-clause-text
unfolding model_text digits
returns-clause-text c = refl

pub returns-clause-operation : goal.returns-clause-operation
unfolding model_text digits
returns-clause-operation c = refl

pub returns-clause-isomorphism : goal.returns-clause-isomorphism
returns-clause-isomorphism c = exchanged
