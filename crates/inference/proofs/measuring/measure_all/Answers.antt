-- A literal more, and all of them.
use Rattle.substitutions.specs.Bindings.{by_bindings}
use Rattle.inference.proofs.MeasureSteps.{measured_all_left, measured_next}
use Rattle.term_unifiers.specs.Renamed.{own_among}
use Rattle.inference.proofs.measuring.measure_all.Goals as goal

pub loop-one-preserved : goal.loop-one-preserved
loop-one-preserved c =
    measured_next (own_among c.args.many (by_bindings c.args.unifier.now)) c.args.left.now c.loop-one.one-index c.one-item.result c.loop-one.all c.measure_left.result c.beside-all.result
    c.loop-one-test.true c.one-item.is c.loop-one.invariant c.measure_left.ensures c.beside-all.ensures

pub returns : goal.returns
returns c = measured_all_left (own_among c.args.many (by_bindings c.args.unifier.now)) c.args.left.now c.loop-one.one-index c.loop-one.all c.loop-one-test.false c.loop-one.invariant
