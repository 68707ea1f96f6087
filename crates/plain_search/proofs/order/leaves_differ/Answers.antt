use Rattle.plain_search.proofs.Parting as parting
use Rattle.plain_search.proofs.order.leaves_differ.Goals as goal

pub returns-clause-differ : goal.returns-clause-differ
returns-clause-differ c = parting.leaves_differ

pub returns-clause-part : goal.returns-clause-part
returns-clause-part c = parting.leaves_differ_in_cells
