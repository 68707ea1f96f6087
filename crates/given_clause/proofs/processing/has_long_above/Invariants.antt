-- The clauses from here on decide.
use Rattle.std.proofs.Common.{◌≡◌, drop}
use Rattle.std.specs.List.{list_any}
use Rattle.clause_index.specs.Subsumers.{is_long_above}
use Rattle.given_clause.proofs.processing.has_long_above.Given as goal

abbrev pub invariant-loop-one : goal.invariant-loop-one
invariant-loop-one l = list_any (λ h. is_long_above l.clause h.now) l.held ≡ list_any (λ h. is_long_above l.clause h.now) (drop l.one-index l.held)
