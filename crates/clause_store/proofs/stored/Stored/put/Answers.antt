-- One literal more.
use Rattle.std.proofs.Common.{subst}
use Rattle.term_bank.proofs.Building.{grows_on}
use Rattle.clause_store.specs.Stored.{IsStoredAs}
use Rattle.clause_store.proofs.Kept.{stored_next, literals_next}
use Rattle.clause_store.proofs.stored.Stored.put.Goals as goal

pub loop-literal-preserved : goal.loop-literal-preserved
loop-literal-preserved c =
    let i = c.loop-literal.invariant in
    let s = c.in_ok-put.ensures.grows in (
      grows_on _ _ _ i.0 s,
      subst (IsStoredAs c.put.new.self c.push.new.self.items) (literals_next c.deref-literal-items.result.now c.loop-literal.literal-index c.literal-item.result c.loop-literal-test.true c.literal-item.is)
          (stored_next c.loop-literal.bank c.put.new.self c.loop-literal.literals.items c.push.new.self.items _ c.literal-item.result.positive c.in_ok-put.field-0 _ s i.1 c.in_ok-put.ensures.term c.in_ok-push.ensures.items),
    )
