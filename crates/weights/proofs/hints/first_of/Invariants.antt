-- The hints left decide.
use Rattle.std.proofs.Common.{◌≡◌}
use Rattle.weights.proofs.Hinted.{place_from}
use Rattle.weights.proofs.hints.first_of.Given as goal

abbrev pub invariant-loop-place : goal.invariant-loop-place
invariant-loop-place l = record {
  decides : place_from l.hints l.clause 0 ≡ place_from l.hints l.clause l.place;
  room : l.places ≡ l.fn.places;
}
