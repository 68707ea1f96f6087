-- The numbers for the clauses so far are added.
use Rattle.std.proofs.Common.{◌≡◌, ◌++◌, flat_map, take}
use Rattle.held_clauses.specs.Holding.{lent}
use Rattle.resolution.specs.Opposing.{numbers_by}
use Rattle.resolution.proofs.opposing.add_nuclei_each.Given as goal

abbrev pub invariant-loop-satellite : goal.invariant-loop-satellite
invariant-loop-satellite l = l.numbers.items ≡ l.fn.numbers.items ++ flat_map (numbers_by l.kind l.held) (lent (take l.satellite-index l.satellites))
