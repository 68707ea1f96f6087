-- The terms from here on decide.
use Rattle.std.proofs.Common.{◌≡◌}
use Rattle.demodulate.proofs.Fits.{fits_from}
use Rattle.demodulate.proofs.fitting.+fits.Given as goal

abbrev pub invariant-fits_in_some-loop-term : goal.invariant-fits_in_some-loop-term
invariant-fits_in_some-loop-term l = fits_from l.rule l.term-items 0 ≡ fits_from l.rule l.term-items l.term-index
