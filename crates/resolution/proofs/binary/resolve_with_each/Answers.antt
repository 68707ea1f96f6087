use Rattle.std.proofs.Common.{arith}
use Rattle.prover_steps.specs.Clashing.{resolvents_with}
use Rattle.resolution.specs.View.{all_conclusions}
use Rattle.resolution.proofs.Going.{lent_added, lent_all}
use Rattle.resolution.proofs.binary.resolve_with_each.Goals as goal

pub loop-other-preserved : goal.loop-other-preserved
loop-other-preserved c =
    lent_added (resolvents_with c.args.given.now) c.args.others.now c.loop-other.other-index c.other-item.result (all_conclusions c.args.made.now.items)
    (all_conclusions c.loop-other.made.items) _ (omega arith) c.other-item.is c.loop-other.invariant c.in_ok-resolve_with.ensures

pub returns : goal.returns
returns c =
    lent_all (resolvents_with c.args.given.now) c.args.others.now c.loop-other.other-index (all_conclusions c.args.made.now.items)
    (all_conclusions c.loop-other.made.items) (omega arith) c.loop-other.invariant
