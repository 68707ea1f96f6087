-- The bindings left decide.
use Rattle.std.proofs.Common.{◌≡◌, drop, map}
use Rattle.term_matches.specs.Matched.{lent_binding}
use Rattle.unifiers.specs.Matching.{bound_term}
use Rattle.term_matches.proofs.matches.Matches.given.Given as goal

abbrev pub invariant-loop-y : goal.invariant-loop-y
invariant-loop-y l = bound_term (map lent_binding (drop l.y-index l.y-items)) l.x ≡ bound_term l.self.bindings l.x
