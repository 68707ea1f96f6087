use Rattle.prover_steps.proofs.Starts.{starts_well}
use Rattle.prover_steps.proofs.laws.searches_start_well.Goals as goal

pub returns : goal.returns
returns c = λ ss rows are. starts_well ss rows are
