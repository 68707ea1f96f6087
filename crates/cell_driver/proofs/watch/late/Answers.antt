use Rattle.mace_cells.proofs.Reading.{reads_once}
use Rattle.cell_driver.proofs.watch.late.Goals as goal

pub returns-then-from-stop-clause-goes : goal.returns-then-from-stop-clause-goes
returns-then-from-stop-clause-goes g c = reads_once c.args.stop _ _ c.in-Some.stop c.read-now.result c.in-Some.is c.requires c.read-now.ensures

pub returns-else-from-stop-clause-goes : goal.returns-else-from-stop-clause-goes
returns-else-from-stop-clause-goes g c = reads_once c.args.stop _ _ c.in-Some.stop c.read-now.result c.in-Some.is c.requires c.read-now.ensures
