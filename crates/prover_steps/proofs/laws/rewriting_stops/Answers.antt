use Rattle.prover_steps.proofs.Stops.{rewriting_stops}
use Rattle.prover_steps.proofs.laws.rewriting_stops.Goals as goal

pub returns : goal.returns
returns c = λ too_large rules k d. rewriting_stops too_large rules k d
