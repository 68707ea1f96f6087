-- One spot further.
use Rattle.std.proofs.Common.{sym, refl}
use Rattle.unify.proofs.Seen.{spot_at, shown_found, shown_more}
use Rattle.unify.proofs.looking.shows.Goals as goal

pub is_variable-requires : goal.is_variable-requires
is_variable-requires c = spot_at c.args.bank.now c.deref-p-items.result.now c.args.spots.now.items c.loop-p.p-index _ c.deref-p-items.ensures.value c.loop-p-test.true c.requires

pub returns-then-is_variable : goal.returns-then-is_variable
returns-then-is_variable c =
    ((λ h. shown_found c.args.bank.now c.deref-p-items.result.now c.args.spots.now.items c.loop-p.p-index c.args.x _ c.deref-p-items.ensures.value c.loop-p-test.true (sym c.if-is_variable.ensures)), (λ i. refl))

pub loop-p-preserved : goal.loop-p-preserved
loop-p-preserved c =
    shown_more c.args.bank.now c.deref-p-items.result.now c.args.spots.now.items c.loop-p.p-index c.args.x _ c.deref-p-items.ensures.value c.loop-p-test.true (sym c.if-is_variable.ensures) c.loop-p.invariant
