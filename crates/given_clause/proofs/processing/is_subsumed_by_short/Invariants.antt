-- The literals from here on decide.
use Rattle.std.proofs.Common.{◌≡◌, ◌≤◌}
use Rattle.given_clause.specs.Acting.{has_short_above}
use Rattle.given_clause.proofs.Tests.{literal_from}
use Rattle.given_clause.proofs.processing.is_subsumed_by_short.Given as goal

abbrev pub invariant-loop-literal : goal.invariant-loop-literal
invariant-loop-literal l = record {
  same : literal_from (has_short_above l.set) l.literal-items 0 ≡ literal_from (has_short_above l.set) l.literal-items l.literal-index;
  on : l.fn.tries ≤ l.tries;
}
