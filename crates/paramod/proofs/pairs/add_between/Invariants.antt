-- What the literals so far give is made.
use Rattle.std.proofs.Common.{◌≡◌, ◌++◌, flat_map, take}
use Rattle.held_clauses.specs.Order.{greater_of}
use Rattle.paramod.specs.Sites.{literal_tried}
use Rattle.prover_steps.specs.Clashing.{places_of}
use Rattle.resolution.specs.View.{all_conclusions}
use Rattle.paramod.proofs.pairs.add_between.Given as goal

abbrev pub invariant-loop-a : goal.invariant-loop-a
invariant-loop-a l =
    all_conclusions l.made.items ≡ all_conclusions l.fn.made.items ++ flat_map (literal_tried (greater_of l.precedence) l.from l.into) (take l.a (places_of l.from.clause))
