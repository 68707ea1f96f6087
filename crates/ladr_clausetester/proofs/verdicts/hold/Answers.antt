use Rattle.model_tables.specs.Tables.{meaning_of}
use Rattle.ladr_clausetester.proofs.Told.{told_more, said_more}
use Rattle.ladr_clausetester.proofs.verdicts.hold.Goals as goal

pub loop-input-preserved : goal.loop-input-preserved
loop-input-preserved c =
    let more = said_more c.args.inputs.now c.loop-input.input-index c.input-item.result c.loop-input-test.true c.input-item.is in
    rw (more, c.in_ok-push.ensures.items) (told_more (meaning_of c.args.tables.now) _ _ _ _ c.loop-input.invariant c.in_ok-true_now.ensures)
