use Rattle.mace_ground.proofs.Grounding.{suffice}
use Rattle.mace_ground.proofs.laws.instances_suffice.Goals as goal

pub returns : goal.returns
returns c = suffice
