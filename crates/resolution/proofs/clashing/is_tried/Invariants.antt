-- The places from here on decide.
use Rattle.std.proofs.Common.{◌≡◌}
use Rattle.resolution.proofs.Clashes.{tried_from}
use Rattle.resolution.proofs.clashing.is_tried.Given as goal

abbrev pub invariant-loop-place : goal.invariant-loop-place
invariant-loop-place l = tried_from l.number l.places 0 ≡ tried_from l.number l.places l.place-index
