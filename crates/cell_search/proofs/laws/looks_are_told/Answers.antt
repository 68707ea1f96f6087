use Rattle.cell_search.proofs.Telling.{told_as_seen}
use Rattle.cell_search.proofs.laws.looks_are_told.Goals as goal

pub returns : goal.returns
returns c = told_as_seen
