-- A literal more.
use Rattle.shared_clauses.proofs.MakeSteps.{clause_next}
use Rattle.shared_clauses.proofs.making.clause_literals.Goals as goal

pub loop-literal-preserved : goal.loop-literal-preserved
loop-literal-preserved c =
    clause_next c.loop-literal.bank c.put.new.self c.deref-literal-items.result.now c.loop-literal.literal-index c.literal-item.result c.loop-literal.made.items c.push.new.self.items c.in_ok-put.field-0 c.loop-literal-test.true c.literal-item.is c.loop-literal.invariant c.in_ok-put.ensures.grows c.in_ok-put.ensures.term c.in_ok-push.ensures.items
