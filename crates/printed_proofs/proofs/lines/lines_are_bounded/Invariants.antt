-- The first lines are bounded.
use Rattle.std.proofs.Common.{take}
use Rattle.std.specs.List.{All}
use Rattle.printed_proofs.specs.LineBounds.{IsBoundedLine}
use Rattle.printed_proofs.proofs.lines.lines_are_bounded.Given as goal

abbrev pub invariant-loop-line : goal.invariant-loop-line
invariant-loop-line l = All IsBoundedLine (take l.line-index l.lines)
