-- The clashes from here on decide.
use Rattle.std.proofs.Common.{◌≡◌}
use Rattle.inference.proofs.FitSteps.{lent_fit}
use Rattle.inference.proofs.fitting.satellites_fit.Given as goal

abbrev pub invariant-loop-i : goal.invariant-loop-i
invariant-loop-i l = lent_fit l.nucleus l.satellites l.others 0 ≡ lent_fit l.nucleus l.satellites l.others l.i
