-- What the clauses so far give is made.
use Rattle.std.proofs.Common.{◌≡◌, ◌++◌, flat_map, take}
use Rattle.held_clauses.specs.Holding.{lent}
use Rattle.prover_steps.specs.Clashing.{resolvents_with}
use Rattle.resolution.specs.View.{all_conclusions}
use Rattle.resolution.proofs.binary.resolve_with_each.Given as goal

abbrev pub invariant-loop-other : goal.invariant-loop-other
invariant-loop-other l = all_conclusions l.made.items ≡ all_conclusions l.fn.made.items ++ flat_map (resolvents_with l.given) (lent (take l.other-index l.others))
