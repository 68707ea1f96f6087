-- The literals from here on decide.
use Rattle.std.proofs.Common.{◌≡◌}
use Rattle.prover_steps.specs.Shortening.{denies}
use Rattle.given_clause.proofs.Tests.{literal_from}
use Rattle.given_clause.proofs.acting.denies_some.Given as goal

abbrev pub invariant-loop-literal : goal.invariant-loop-literal
invariant-loop-literal l = literal_from (denies l.unit) l.literal-items 0 ≡ literal_from (denies l.unit) l.literal-items l.literal-index
