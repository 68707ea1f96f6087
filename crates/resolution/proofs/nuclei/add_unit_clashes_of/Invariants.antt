-- What the places so far give is made.
use Rattle.std.proofs.Common.{◌≡◌, ◌++◌, flat_map, take}
use Rattle.prover_steps.specs.Clashing.{places_of}
use Rattle.resolution.specs.View.{all_conclusions}
use Rattle.resolution.proofs.Nucleated.{units_at}
use Rattle.resolution.proofs.nuclei.add_unit_clashes_of.Given as goal

abbrev pub invariant-loop-left : goal.invariant-loop-left
invariant-loop-left l = all_conclusions l.made.items ≡ all_conclusions l.fn.made.items ++ flat_map (units_at l.held l.given l.nucleus) (take l.left (places_of l.nucleus.clause))
