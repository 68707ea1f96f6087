use Rattle.std.proofs.Common.{◌+◌}
use Rattle.model_tables.proofs.Elements.{Steps}
use Rattle.model_tables.proofs.closures.advance.Given as goal

abbrev pub invariant-loop-at : goal.invariant-loop-at
invariant-loop-at l = Steps (l.tables.top + 1) l.variables l.fn.env l.env l.at

abbrev pub decreases-loop-at : goal.decreases-loop-at
decreases-loop-at l = l.at
