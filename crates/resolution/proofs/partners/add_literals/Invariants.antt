-- What is added stands for the literals so far.
use Rattle.std.proofs.Common.{◌++◌, map, take}
use Rattle.prover_steps.specs.Clashing.{places_of}
use Rattle.resolution.specs.Trying.{partner_of}
use Rattle.resolution.specs.Ways.{StandFor}
use Rattle.resolution.proofs.partners.add_literals.Given as goal

abbrev pub invariant-loop-literal : goal.invariant-loop-literal
invariant-loop-literal l = StandFor l.nucleus l.place (map partner_of l.candidates.items) (map partner_of l.fn.candidates.items ++ map (λ a. (l.held, a)) (take l.literal (places_of l.held.clause)))
