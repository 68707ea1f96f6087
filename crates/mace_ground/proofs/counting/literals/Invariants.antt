-- what is counted and what is left make up the sum
use Rattle.std.proofs.Common.{◌≡◌, ◌+◌, ◌-◌, ◌^◌, ◌≤◌, min, map, drop}
use Rattle.mace_ground.specs.Instances.{ground_literals}
use Rattle.mace_ground.proofs.counting.literals.Given as goal

abbrev pub invariant-loop-clause : goal.invariant-loop-clause
invariant-loop-clause l = record {
  most : l.all ≤ 2 ^ 128 - 1;
  all : min (l.all + ground_literals l.size (map (λ row. row.1) (drop l.clause-index l.clauses))) (2 ^ 128 - 1) ≡ min (ground_literals l.size (map (λ row. row.1) l.clauses)) (2 ^ 128 - 1);
}
