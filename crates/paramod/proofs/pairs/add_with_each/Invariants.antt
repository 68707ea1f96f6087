-- What the clauses so far give is made.
use Rattle.std.proofs.Common.{◌≡◌, ◌++◌, flat_map, take}
use Rattle.held_clauses.specs.Holding.{lent}
use Rattle.held_clauses.specs.Order.{greater_of}
use Rattle.prover_steps.specs.Equalities.{paramodulants_with}
use Rattle.resolution.specs.View.{all_conclusions}
use Rattle.paramod.proofs.pairs.add_with_each.Given as goal

abbrev pub invariant-loop-other : goal.invariant-loop-other
invariant-loop-other l =
    all_conclusions l.made.items ≡ all_conclusions l.fn.made.items ++ flat_map (paramodulants_with (greater_of l.precedence) l.given) (lent (take l.other-index l.others))
