-- The negative places so far have what may clash there.
use Rattle.std.proofs.Common.{false, filter, take}
use Rattle.derivation.specs.Places.{has_literal}
use Rattle.prover_steps.specs.Clashing.{places_of}
use Rattle.resolution.specs.Trying.{partners_by, all_tried}
use Rattle.resolution.specs.Ways.{StandForEach}
use Rattle.resolution.specs.declared.partners.ClashKind.TheVariants.{Hyper}
use Rattle.resolution.proofs.nuclei.negative_places.Given as goal

abbrev pub invariant-loop-place : goal.invariant-loop-place
invariant-loop-place l = StandForEach l.nucleus (all_tried l.places.items) (filter (has_literal false l.nucleus) (take l.place (places_of l.nucleus))) (partners_by Hyper l.held)
