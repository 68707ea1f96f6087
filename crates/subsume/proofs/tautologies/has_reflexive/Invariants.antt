-- The literals from here on decide.
use Rattle.std.proofs.Common.{◌≡◌}
use Rattle.prover_steps.specs.Searching.{is_reflexive}
use Rattle.held_clauses.proofs.LiteralTests.{some_from}
use Rattle.subsume.proofs.tautologies.has_reflexive.Given as goal

abbrev pub invariant-loop-literal : goal.invariant-loop-literal
invariant-loop-literal l = some_from is_reflexive l.literal-items 0 ≡ some_from is_reflexive l.literal-items l.literal-index
