use Rattle.ladr_cells.proofs.Carrying.{isomorphic}
use Rattle.ladr_cells.proofs.laws.isomorphisms_are_carried.Goals as goal

pub returns : goal.returns
returns c = isomorphic
