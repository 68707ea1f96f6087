-- The literals from here on decide.
use Rattle.std.proofs.Common.{◌≡◌}
use Rattle.prover_steps.specs.Searching.{is_denied_in}
use Rattle.held_clauses.proofs.LiteralTests.{some_from}
use Rattle.subsume.proofs.tautologies.has_denied.Given as goal

abbrev pub invariant-loop-literal : goal.invariant-loop-literal
invariant-loop-literal l = some_from (is_denied_in l.clause) l.literal-items 0 ≡ some_from (is_denied_in l.clause) l.literal-items l.literal-index
