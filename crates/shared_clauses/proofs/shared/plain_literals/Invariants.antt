-- The first literals are built.
use Rattle.std.proofs.Common.{◌≡◌, map, take}
use Rattle.fol_core.specs.ClauseView.{literal_of}
use Rattle.shared_clauses.specs.Shared.{clause_in}
use Rattle.shared_clauses.proofs.shared.plain_literals.Given as goal

abbrev pub invariant-loop-literal : goal.invariant-loop-literal
invariant-loop-literal l = map literal_of l.plain.items ≡ clause_in l.bank (take l.literal-index l.literals)
