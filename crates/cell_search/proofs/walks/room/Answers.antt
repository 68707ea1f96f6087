use Rattle.std.proofs.Common.{arith}
use Rattle.cell_search.proofs.Rows.{room_more}
use Rattle.cell_search.proofs.walks.room.Goals as goal

pub loop-clause-preserved : goal.loop-clause-preserved
loop-clause-preserved c = record {
  few = omega (arith, c.max-room.ensures, c.variables_in.ensures.few, c.loop-clause.invariant.few);
  all =
      room_more c.clauses-clause-items.result.now c.loop-clause.clause-index c.loop-clause-item.result c.loop-clause-test.true c.loop-clause-item.is c.loop-clause.room c.max-room.result
      (omega (arith, c.max-room.ensures)) (omega (arith, c.max-room.ensures, c.variables_in.ensures.many)) c.loop-clause.invariant.all;
}
