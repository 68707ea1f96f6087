use Rattle.std.proofs.Common.{arith}
use Rattle.held_clauses.specs.Order.{greater_of}
use Rattle.prover_steps.specs.Equalities.{paramodulants_with}
use Rattle.resolution.specs.View.{all_conclusions}
use Rattle.resolution.proofs.Going.{lent_added, lent_all}
use Rattle.paramod.proofs.pairs.add_with_each.Goals as goal

pub loop-other-preserved : goal.loop-other-preserved
loop-other-preserved c =
    lent_added (paramodulants_with (greater_of c.args.precedence.now) c.args.given.now) c.args.others.now c.loop-other.other-index c.other-item.result (all_conclusions c.args.made.now.items)
    (all_conclusions c.loop-other.made.items) _ (omega arith) c.other-item.is c.loop-other.invariant c.in_ok-add_with.ensures

pub returns : goal.returns
returns c =
    lent_all (paramodulants_with (greater_of c.args.precedence.now) c.args.given.now) c.args.others.now c.loop-other.other-index (all_conclusions c.args.made.now.items)
    (all_conclusions c.loop-other.made.items) (omega arith) c.loop-other.invariant
