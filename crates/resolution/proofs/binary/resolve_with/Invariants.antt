-- What the places so far give is made.
use Rattle.std.proofs.Common.{◌≡◌, ◌++◌, flat_map, take}
use Rattle.prover_steps.specs.Clashing.{places_of}
use Rattle.resolution.specs.View.{all_conclusions}
use Rattle.resolution.specs.Tries.{resolvents_tried}
use Rattle.resolution.proofs.binary.resolve_with.Given as goal

abbrev pub invariant-loop-i : goal.invariant-loop-i
invariant-loop-i l = all_conclusions l.made.items ≡ all_conclusions l.fn.made.items ++ flat_map (resolvents_tried l.given l.other) (take l.i (places_of l.given.clause))
