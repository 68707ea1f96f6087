-- Copies of those so far.
use Rattle.std.proofs.Common.{◌≡◌, take}
use Rattle.held_clauses.specs.Holding.{lent}
use Rattle.given_clause.proofs.acting.copies_of.Given as goal

abbrev pub invariant-loop-one : goal.invariant-loop-one
invariant-loop-one l = l.copies.items ≡ lent (take l.one-index l.held)
