use Rattle.ladr_cells.proofs.Celled.{cells_for_all}
use Rattle.ladr_cells.proofs.laws.cells_for_all.Goals as goal

pub returns : goal.returns
returns c = cells_for_all c.skolems_stand_behind.ensures
