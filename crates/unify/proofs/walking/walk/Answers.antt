-- One binding further.
use Rattle.std.proofs.Common.{sym, subst, arith}
use Rattle.std.proofs.lemmas.Grind.{common_steps}
use Rattle.unify.specs.Bindings.{IsSpot}
use Rattle.unify.proofs.Seen.{bound_at}
use Rattle.unify.proofs.walking.walk.Goals as goal
use Rattle.unify.proofs.walking.walk.Goals.{then-is_variable, else-is_variable}

pub loop-b-preserved : goal.loop-b-preserved
loop-b-preserved c = record {
  same = elim c.if-is_variable.branch [ then-is_variable w ↦ grind (arith, common_steps) | else-is_variable w ↦ grind (arith, common_steps) ];
  spot = elim c.if-is_variable.branch [
    | then-is_variable w ↦ subst (IsSpot c.args.bank.now) (sym w.spot-is) (bound_at c.args.bank.now c.deref-b-items.result.now c.args.bound.now.items c.loop-b.b-index _ c.deref-b-items.ensures.value c.loop-b-test.true c.requires.bound)
    | else-is_variable w ↦ subst (IsSpot c.args.bank.now) (sym w.spot-is) c.loop-b.invariant.spot
  ];
}
