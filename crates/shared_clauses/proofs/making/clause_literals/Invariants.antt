-- The first literals are there.
use Rattle.std.proofs.Common.{map, take}
use Rattle.fol_core.specs.ClauseView.{literal_of}
use Rattle.shared_clauses.specs.Shared.{AreMade}
use Rattle.shared_clauses.proofs.making.clause_literals.Given as goal

abbrev pub invariant-loop-literal : goal.invariant-loop-literal
invariant-loop-literal l = AreMade l.bank (map literal_of (take l.literal-index l.literal-items)) l.made.items
