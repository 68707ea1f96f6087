-- The first satellites.
use Rattle.std.proofs.Common.{◌≡◌, ◌++◌, ◌∷◌, map, take}
use Rattle.clause_store.proofs.parents.add_clash.Given as goal

abbrev pub invariant-loop-satellite : goal.invariant-loop-satellite
invariant-loop-satellite l = l.numbers.items ≡ l.fn.numbers.items ++ l.n ∷ map (λ s. s.clause) (take l.satellite-index l.satellites)
