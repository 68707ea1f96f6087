use Rattle.std.proofs.Common.{refl}
use Rattle.clausify.proofs.Substituting.{rows_next}
use Rattle.clausify.proofs.substitution.rows_of.Goals as goal

pub loop-value-preserved : goal.loop-value-preserved
loop-value-preserved c =
    rows_next c.loop-value.rows c.insert.new.self c.args.values.now c.loop-value.value-index c.value-item.result _ c.loop-value-test.true c.value-item.is refl c.in_ok-insert.ensures.updates
    c.loop-value.invariant
