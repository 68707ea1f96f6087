use Rattle.printed_proofs.proofs.BoundedLists.{IsBoundedStep, more, all, steps_all}
use Rattle.printed_proofs.proofs.words.steps_are_bounded.Goals as goal

pub loop-step-preserved : goal.loop-step-preserved
loop-step-preserved c =
    more IsBoundedStep c.args.steps.now c.loop-step.step-index c.step-item.result c.loop-step-test.true c.step-item.is c.loop-step.invariant c.step_is_bounded.ensures

pub returns : goal.returns
returns c = steps_all c.args.steps.now (all IsBoundedStep c.args.steps.now c.loop-step.step-index c.loop-step-test.false c.loop-step.invariant)
