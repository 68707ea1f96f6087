-- A term more.
use Rattle.shared_clauses.proofs.MakeSteps.{bound_next}
use Rattle.shared_clauses.proofs.making.put_values.Goals as goal

pub loop-x-preserved : goal.loop-x-preserved
loop-x-preserved c =
    bound_next c.loop-x.bank c.put.new.self c.deref-x-items.result.now c.loop-x.x-index c.loop-x-item.result c.loop-x.bindings.items c.push.new.self.items c.in_ok-id.id c.loop-x-test.true c.loop-x-item.is c.loop-x.invariant c.in_ok-id.ensures.grows c.in_ok-id.ensures.term c.in_ok-push.ensures.items
