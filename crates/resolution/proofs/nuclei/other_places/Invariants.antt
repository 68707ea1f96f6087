-- The other places so far have what may clash there.
use Rattle.std.proofs.Common.{not, ◌==◌, filter, take}
use Rattle.prover_steps.specs.Clashing.{places_of}
use Rattle.resolution.specs.Trying.{partners_by, all_tried}
use Rattle.resolution.specs.Ways.{StandForEach}
use Rattle.resolution.specs.declared.partners.ClashKind.TheVariants.{Units}
use Rattle.resolution.proofs.nuclei.other_places.Given as goal

abbrev pub invariant-loop-place : goal.invariant-loop-place
invariant-loop-place l = StandForEach l.nucleus (all_tried l.places.items) (filter (λ k. not (k == l.left)) (take l.place (places_of l.nucleus))) (partners_by Units l.held)
