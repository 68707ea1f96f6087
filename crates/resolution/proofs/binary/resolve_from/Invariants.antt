-- What the places so far give is made.
use Rattle.std.proofs.Common.{◌≡◌, ◌++◌, [], ◌∷◌, flat_map, take}
use Rattle.proof_words.specs.Written.{satellite, by_resolve}
use Rattle.prover_steps.specs.Clashing.{places_of}
use Rattle.prover_steps.specs.Concluded.{inferred}
use Rattle.resolution.specs.View.{all_conclusions}
use Rattle.resolution.proofs.binary.resolve_from.Given as goal

abbrev pub invariant-loop-j : goal.invariant-loop-j
invariant-loop-j l =
    all_conclusions l.made.items
    ≡ all_conclusions l.fn.made.items ++ flat_map (λ j. inferred (by_resolve l.given.number (satellite l.i l.other.number j)) (l.given.clause ∷ l.other.clause ∷ [])) (take l.j (places_of l.other.clause))
