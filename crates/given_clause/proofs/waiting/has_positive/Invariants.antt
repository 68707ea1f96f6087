-- The literals from here on decide.
use Rattle.std.proofs.Common.{◌≡◌}
use Rattle.given_clause.proofs.Tests.{literal_from}
use Rattle.given_clause.proofs.waiting.has_positive.Given as goal

abbrev pub invariant-loop-literal : goal.invariant-loop-literal
invariant-loop-literal l = literal_from (λ k. k.positive) l.literal-items 0 ≡ literal_from (λ k. k.positive) l.literal-items l.literal-index
