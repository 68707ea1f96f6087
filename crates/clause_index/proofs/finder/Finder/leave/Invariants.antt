-- Other numbers stand where they stood.
use Rattle.clause_index.specs.Filing.{AllOthersStay}
use Rattle.clause_index.proofs.finder.Finder.leave.Given as goal

abbrev pub invariant-loop-literal : goal.invariant-loop-literal
invariant-loop-literal l = AllOthersStay l.number l.fn.self l.self
