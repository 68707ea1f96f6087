-- The best of the clauses so far.
use Rattle.std.proofs.Common.{◌≡◌, take}
use Rattle.given_clause.specs.Guides.{setting_of}
use Rattle.given_clause.specs.Turns.{best_so_far}
use Rattle.given_clause.proofs.Lightest.{best_in}
use Rattle.given_clause.proofs.picking.lightest_among.Given as goal

abbrev pub invariant-loop-place : goal.invariant-loop-place
invariant-loop-place l = best_so_far l.best ≡ best_in (setting_of l.guide) l.among (take l.place l.waiting.held)
