-- What the clauses so far give is made.
use Rattle.std.proofs.Common.{◌≡◌, ◌++◌, flat_map, take}
use Rattle.held_clauses.specs.Holding.{lent}
use Rattle.resolution.specs.View.{all_conclusions}
use Rattle.resolution.proofs.Nucleated.{hyper_tried}
use Rattle.resolution.proofs.nuclei.add_clashes_of_each.Given as goal

abbrev pub invariant-loop-nucleus : goal.invariant-loop-nucleus
invariant-loop-nucleus l = all_conclusions l.made.items ≡ all_conclusions l.fn.made.items ++ flat_map (hyper_tried l.held l.given) (lent (take l.nucleus-index l.nuclei))
