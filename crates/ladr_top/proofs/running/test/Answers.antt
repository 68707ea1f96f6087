use Rattle.ladr_top.proofs.running.test.Goals as goal

pub returns-then-filter : goal.returns-then-filter
returns-then-filter g c = rw c.if-filter.true c.filter_interpretations.ensures

pub returns-else-filter : goal.returns-else-filter
returns-else-filter g c = rw c.if-filter.false c.clausetester.ensures
