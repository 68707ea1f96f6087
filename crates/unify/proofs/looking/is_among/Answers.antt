-- One spot further.
use Rattle.std.proofs.Common.{sym, refl}
use Rattle.unify.proofs.Seen.{among_found, among_more}
use Rattle.unify.proofs.looking.is_among.Goals as goal

pub returns-then-same : goal.returns-then-same
returns-then-same c = ((λ h. among_found _ c.args.spots.now.items c.loop-q.q-index c.args.p _ c.deref-q-items.ensures.value c.loop-q-test.true (sym c.if-same.ensures)), (λ i. refl))

pub loop-q-preserved : goal.loop-q-preserved
loop-q-preserved c = among_more _ c.args.spots.now.items c.loop-q.q-index c.args.p _ c.deref-q-items.ensures.value c.loop-q-test.true (sym c.if-same.ensures) c.loop-q.invariant
