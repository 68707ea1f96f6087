-- What the literals so far give is made.
use Rattle.std.proofs.Common.{◌≡◌, ◌++◌, flat_map, take}
use Rattle.held_clauses.specs.Order.{greater_of}
use Rattle.paramod.specs.Sites.{site, paramodulants_in}
use Rattle.prover_steps.specs.Clashing.{places_of}
use Rattle.resolution.specs.View.{all_conclusions}
use Rattle.paramod.proofs.pairs.add_by.Given as goal

abbrev pub invariant-loop-b : goal.invariant-loop-b
invariant-loop-b l =
    all_conclusions l.made.items
    ≡ all_conclusions l.fn.made.items ++ flat_map (λ b. paramodulants_in (greater_of l.precedence) (site l.from l.equation l.side l.into b)) (take l.b (places_of l.into.clause))
