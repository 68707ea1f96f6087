-- One argument more.
use Rattle.std.proofs.Common.{◌∙◌}
use Rattle.term_bank.proofs.Building.{grows_on, more_arguments, trees_next}
use Rattle.term_bank.proofs.bank.Bank.+put.Goals as goal

pub loop-term-preserved : goal.loop-term-preserved
loop-term-preserved t c =
    let i = c.loop-term.invariant in
    let s = c.in_ok-put-in-App.ensures.grows in
    let more = more_arguments c.loop-term.self c.put.new.self c.loop-term.arguments.items c.push.new.self.items _ c.in_ok-put-in-App.field-0 _ s i.1 i.2 c.in_ok-put-in-App.ensures.term c.in_ok-push-in-App.ensures.ok in
    (grows_on _ _ _ i.0 s, more.0, more.1 ∙ trees_next c.deref-term-items.result.now c.loop-term.term-index c.term-item.result c.loop-term-test.true c.term-item.is)
