-- Those with a literal of which one of the first is an instance are there.
use Rattle.clause_index.proofs.General.{HaveGeneral}
use Rattle.clause_index.proofs.finder.Finder.general.Given as goal

abbrev pub invariant-loop-literal : goal.invariant-loop-literal
invariant-loop-literal l = HaveGeneral l.self l.literal-items l.literal-index l.numbers.items
