-- The variables at the first places are found.
use Rattle.std.proofs.Common.{◌≡◌, map, slice_index, take}
use Rattle.clausify.proofs.asking.asked_variables.Given as goal

abbrev pub invariant-loop-place : goal.invariant-loop-place
invariant-loop-place l = l.found.items ≡ map (λ k. slice_index l.prefix.items k) (take l.place-index l.places)
