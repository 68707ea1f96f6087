-- The units from here on decide.
use Rattle.std.proofs.Common.{◌≡◌, drop}
use Rattle.given_clause.specs.Acting.{conflicts_with, first_in}
use Rattle.held_clauses.specs.Holding.{lent}
use Rattle.given_clause.proofs.acting.first_conflict.Given as goal

abbrev pub invariant-loop-unit : goal.invariant-loop-unit
invariant-loop-unit l = first_in (conflicts_with (lent l.units) l.held) ≡ first_in (conflicts_with (lent (drop l.unit-index l.units)) l.held)
