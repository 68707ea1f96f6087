use Rattle.model_tables.proofs.Exchange.{in_place}
use Rattle.model_tables.proofs.laws.is_isomorphic_to_itself.Goals as goal

pub returns : goal.returns
returns c = in_place
