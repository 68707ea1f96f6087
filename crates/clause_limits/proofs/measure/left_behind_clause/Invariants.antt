-- What is left with the literals from here on makes up the number.
use Rattle.std.proofs.Common.{◌≡◌, ◌+◌}
use Rattle.clause_limits.proofs.Measures.{clause_sizes_from}
use Rattle.clause_limits.proofs.measure.left_behind_clause.Given as goal

abbrev pub invariant-loop-literal : goal.invariant-loop-literal
invariant-loop-literal l = l.left + clause_sizes_from l.literal-items 0 ≡ l.room + clause_sizes_from l.literal-items l.literal-index
