-- What the literals so far give is made.
use Rattle.std.proofs.Common.{◌≡◌, ◌++◌, ◌∷◌, [], flat_map, take}
use Rattle.proof_words.specs.Written.{by_xx_res}
use Rattle.prover_steps.specs.Clashing.{places_of}
use Rattle.prover_steps.specs.Concluded.{inferred}
use Rattle.resolution.specs.View.{all_conclusions}
use Rattle.paramod.proofs.reflexivity.add_reflexive_resolvents.Given as goal

abbrev pub invariant-loop-a : goal.invariant-loop-a
invariant-loop-a l = all_conclusions l.made.items ≡ all_conclusions l.fn.made.items ++ flat_map (λ a. inferred (by_xx_res l.given.number a) (l.given.clause ∷ [])) (take l.a (places_of l.given.clause))
