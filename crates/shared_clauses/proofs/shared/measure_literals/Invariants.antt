-- The first literals are measured.
use Rattle.std.proofs.Common.{◌≡◌, take}
use Rattle.inference.specs.Measured.{clause_measured}
use Rattle.shared_clauses.specs.Shared.{clause_in}
use Rattle.shared_clauses.proofs.shared.measure_literals.Given as goal

abbrev pub invariant-loop-literal : goal.invariant-loop-literal
invariant-loop-literal l = l.all ≡ clause_measured (clause_in l.bank (take l.literal-index l.literals))
