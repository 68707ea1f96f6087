use Rattle.plain_search.proofs.Meeting.{leaves_cover, next_by_search, refuted_by_search, settled_by_search, undecided_by_search}
use Rattle.plain_search.proofs.order.tables_meet_solutions.Goals as goal

pub returns-clause-refuted : goal.returns-clause-refuted
returns-clause-refuted c = refuted_by_search

pub returns-clause-next : goal.returns-clause-next
returns-clause-next c = next_by_search

pub returns-clause-undecided : goal.returns-clause-undecided
returns-clause-undecided c = undecided_by_search

pub returns-clause-settled : goal.returns-clause-settled
returns-clause-settled c = settled_by_search

pub returns-clause-covered : goal.returns-clause-covered
returns-clause-covered c = leaves_cover
