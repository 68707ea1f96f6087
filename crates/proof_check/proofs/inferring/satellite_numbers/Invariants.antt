-- The numbers of the first satellites are there.
use Rattle.std.proofs.Common.{◌≡◌, ◌∷◌, map, take}
use Rattle.derivation.specs.declared.words.Satellite.{Satellite}
use Rattle.proof_check.proofs.inferring.satellite_numbers.Given as goal

abbrev pub invariant-loop-s : goal.invariant-loop-s
invariant-loop-s l = l.numbers.items ≡ l.nucleus ∷ map (λ (s : Satellite). s.clause) (take l.s-index l.satellites)
