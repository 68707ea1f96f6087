use Rattle.prover_steps.proofs.Subsumption.{subsumption_found}
use Rattle.prover_steps.proofs.laws.subsumption_is_found.Goals as goal

pub returns : goal.returns
returns c = subsumption_found c.matches_are_found.ensures.make c.matches_are_found.ensures.found
