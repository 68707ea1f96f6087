use Rattle.cell_search.proofs.occurrences.term_cell.Goals as goal

pub returns-in-App-clause-number : goal.returns-in-App-clause-number
returns-in-App-clause-number c = rw c.in-App.is c.number.ensures.number
