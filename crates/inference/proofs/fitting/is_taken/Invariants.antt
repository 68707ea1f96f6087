-- The satellites from here on decide.
use Rattle.std.proofs.Common.{◌≡◌}
use Rattle.inference.proofs.FitSteps.{taken_from}
use Rattle.inference.proofs.fitting.is_taken.Given as goal

abbrev pub invariant-loop-s : goal.invariant-loop-s
invariant-loop-s l = taken_from l.place l.satellites 0 ≡ taken_from l.place l.satellites l.s-index
