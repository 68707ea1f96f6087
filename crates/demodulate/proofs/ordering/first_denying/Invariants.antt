-- The units from here on decide.
use Rattle.std.proofs.Common.{◌≡◌}
use Rattle.fol_core.specs.ClauseView.{literal_of}
use Rattle.demodulate.proofs.Fits.{denying_from}
use Rattle.demodulate.proofs.ordering.first_denying.Given as goal

abbrev pub invariant-loop-unit : goal.invariant-loop-unit
invariant-loop-unit l = denying_from l.held (literal_of l.literal) 0 ≡ denying_from l.held (literal_of l.literal) l.unit-index
