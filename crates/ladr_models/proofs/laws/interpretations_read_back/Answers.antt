use Rattle.ladr_models.proofs.Interpreted.{interpretations_back}
use Rattle.ladr_models.proofs.laws.interpretations_read_back.Goals as goal

pub returns : goal.returns
returns _ = interpretations_back
