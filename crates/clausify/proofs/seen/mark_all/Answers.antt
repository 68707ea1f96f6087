use Rattle.std.proofs.Common.{arith}
use Rattle.clausify.proofs.Marks.{marks_next, marks_end}
use Rattle.clausify.proofs.seen.mark_all.Goals as goal

pub loop-input-preserved : goal.loop-input-preserved
loop-input-preserved c = λ s l.
    marks_next c.args.inputs.now c.loop-input.input-index c.input-item.result c.args.marks.now c.loop-input.marks c.mark_symbols.new.marks c.loop-input-test.true c.input-item.is c.mark_symbols.ensures s
    (omega (arith, c.loop-input.auto.marks)) (c.loop-input.invariant s l)

pub returns : goal.returns
returns c = λ s l. marks_end c.args.inputs.now c.loop-input.input-index c.args.marks.now c.loop-input.marks s (omega (arith, c.loop-input-test.false)) (c.loop-input.invariant s l)
