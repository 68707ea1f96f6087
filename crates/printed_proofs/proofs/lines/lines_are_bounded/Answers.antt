use Rattle.printed_proofs.specs.LineBounds.{IsBoundedLine}
use Rattle.printed_proofs.proofs.BoundedLists.{more, all}
use Rattle.printed_proofs.proofs.lines.lines_are_bounded.Goals as goal

pub loop-line-preserved : goal.loop-line-preserved
loop-line-preserved c =
    more IsBoundedLine c.args.lines.now c.loop-line.line-index c.line-item.result c.loop-line-test.true c.line-item.is c.loop-line.invariant c.line_is_bounded.ensures

pub returns : goal.returns
returns c = all IsBoundedLine c.args.lines.now c.loop-line.line-index c.loop-line-test.false c.loop-line.invariant
