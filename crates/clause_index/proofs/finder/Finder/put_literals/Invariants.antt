-- The number stands under the terms of the first literals.
use Rattle.clause_index.proofs.Filing.{LiteralsFiled}
use Rattle.clause_index.proofs.finder.Finder.put_literals.Given as goal

abbrev pub invariant-loop-literal : goal.invariant-loop-literal
invariant-loop-literal l = LiteralsFiled l.long l.fn.self l.self l.number l.literal-items l.literal-index
