-- The first lists are clauses.
use Rattle.std.proofs.Common.{◌≡◌, map, take}
use Rattle.answers.specs.Packed.{packed}
use Rattle.carried_answers.specs.Carried.{lent_answers}
use Rattle.carried_answers.proofs.packing.packed_each.Given as goal

abbrev pub invariant-loop-own : goal.invariant-loop-own
invariant-loop-own l = l.clauses.items ≡ map packed (lent_answers (take l.own-index l.answers))
