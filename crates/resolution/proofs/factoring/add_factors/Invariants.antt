-- What the places so far give is made.
use Rattle.std.proofs.Common.{◌≡◌, ◌++◌, nat_lt, filter, flat_map, take}
use Rattle.prover_steps.specs.Clashing.{places_of}
use Rattle.resolution.specs.Tries.{factor_at}
use Rattle.resolution.specs.View.{all_conclusions}
use Rattle.resolution.proofs.factoring.add_factors.Given as goal

abbrev pub invariant-loop-a : goal.invariant-loop-a
invariant-loop-a l = all_conclusions l.made.items ≡ all_conclusions l.fn.made.items ++ flat_map (λ a. flat_map (factor_at l.given a) (filter (nat_lt a) (places_of l.given.clause))) (take l.a (places_of l.given.clause))
