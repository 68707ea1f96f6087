-- A term more.
use Rattle.term_unifiers.specs.Solutions.{bindings_of}
use Rattle.term_unifiers.proofs.Held.{parent_put}
use Rattle.term_unifiers.proofs.sharing.put_all_among.Goals as goal

pub loop-one-preserved : goal.loop-one-preserved
loop-one-preserved c =
    parent_put c.args.many (bindings_of c.args.found.now) c.args.terms.now c.loop-one.one-index c.one-item.result c.args.bank.now c.loop-one.bank c.put_among.new.bank c.args.numbers.now c.loop-one.numbers c.put_among.new.numbers
    c.loop-one.made.items c.push.new.self.items c.in_ok-id.id c.loop-one-test.true c.one-item.is c.in_ok-push.ensures.items c.loop-one.invariant c.in_ok-id.ensures
