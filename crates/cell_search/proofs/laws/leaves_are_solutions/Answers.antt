use Rattle.cell_search.proofs.LeafTables.{leaf_tables_all_solve, leaf_tables_cover, leaf_tables_differ}
use Rattle.cell_search.proofs.laws.leaves_are_solutions.Goals as goal

pub returns-clause-solve : goal.returns-clause-solve
returns-clause-solve c = leaf_tables_all_solve

pub returns-clause-differ : goal.returns-clause-differ
returns-clause-differ c = leaf_tables_differ

pub returns-clause-cover : goal.returns-clause-cover
returns-clause-cover c = leaf_tables_cover
