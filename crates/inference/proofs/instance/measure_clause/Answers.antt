-- A literal more.
use Rattle.substitutions.specs.Bindings.{by_bindings}
use Rattle.inference.proofs.InstanceSteps.{instance_next}
use Rattle.inference.proofs.instance.measure_clause.Goals as goal

pub loop-literal-preserved : goal.loop-literal-preserved
loop-literal-preserved c =
    instance_next (by_bindings c.args.values.now) c.deref-literal-items.result.now c.loop-literal.literal-index c.literal-item.result c.loop-literal.all c.measure_with.result c.beside-all.result
    c.loop-literal-test.true c.literal-item.is c.loop-literal.invariant c.measure_with.ensures c.beside-all.ensures
