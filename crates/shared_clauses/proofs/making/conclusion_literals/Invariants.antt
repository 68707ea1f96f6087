-- The first literals are there.
use Rattle.substitutions.specs.Bindings.{by_bindings}
use Rattle.term_unifiers.specs.Renamed.{own_among}
use Rattle.shared_clauses.proofs.MakeSteps.{Concluding}
use Rattle.shared_clauses.proofs.making.conclusion_literals.Given as goal

abbrev pub invariant-loop-i : goal.invariant-loop-i
invariant-loop-i l = Concluding (own_among l.many (by_bindings l.unifier)) l.left l.i l.bank l.terms.items l.others.items l.made.items
