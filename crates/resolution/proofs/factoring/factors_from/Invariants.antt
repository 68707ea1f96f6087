-- What the places so far give is made.
use Rattle.std.proofs.Common.{◌≡◌, ◌++◌, flat_map, take}
use Rattle.prover_steps.specs.Clashing.{places_of}
use Rattle.resolution.specs.Tries.{factor_tried}
use Rattle.resolution.specs.View.{all_conclusions}
use Rattle.resolution.proofs.factoring.factors_from.Given as goal

abbrev pub invariant-loop-b : goal.invariant-loop-b
invariant-loop-b l = all_conclusions l.made.items ≡ all_conclusions l.fn.made.items ++ flat_map (factor_tried l.given l.a) (take l.b (places_of l.given.clause))
