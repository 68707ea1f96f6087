use Rattle.mace_ground.proofs.Numbering.{by_number}
use Rattle.mace_ground.proofs.laws.cells_by_number.Goals as goal

pub returns : goal.returns
returns c = by_number
