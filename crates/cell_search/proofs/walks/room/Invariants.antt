-- where there is room for those to come and so many, there is for all
use Rattle.std.proofs.Common.{◌≤◌, ℕ, ◌^◌, map, drop}
use Rattle.cell_search.specs.Full.{HaveVariables}
use Rattle.cell_search.proofs.walks.room.Given as goal

abbrev pub invariant-loop-clause : goal.invariant-loop-clause
invariant-loop-clause l = record {
  few : l.room ≤ 2 ^ 64;
  all : (n : ℕ) → l.room ≤ n → HaveVariables (map (λ r. r.1) (drop l.clause-index l.clause-items)) n → HaveVariables (map (λ r. r.1) l.clause-items) n;
}
