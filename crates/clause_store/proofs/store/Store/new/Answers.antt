-- One more formula.
use Rattle.clause_store.proofs.Kept.{formula_next}
use Rattle.clause_store.proofs.store.Store.new.Goals as goal

pub loop-input-preserved : goal.loop-input-preserved
loop-input-preserved c =
    formula_next c.deref-input-items.result.now c.loop-input.input-index c.input-item.result c.loop-input.lines.items c.push.new.self.items c.in_ok-formula_line.field-0 c.loop-input-test.true c.input-item.is c.loop-input.invariant
    c.in_ok-formula_line.ensures c.in_ok-push.ensures.items
