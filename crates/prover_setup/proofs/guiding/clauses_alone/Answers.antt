-- One clause more.
use Rattle.prover_setup.proofs.Beginning.{alone_next}
use Rattle.prover_setup.proofs.guiding.clauses_alone.Goals as goal

pub loop-row-preserved : goal.loop-row-preserved
loop-row-preserved c = alone_next _ _ _ _ _ c.row-item.result c.loop-row-test.true c.row-item.is c.in_ok-copy.ensures c.in_ok-push.ensures.items c.loop-row.invariant
