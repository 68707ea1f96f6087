-- The literals from here on decide.
use Rattle.std.proofs.Common.{◌≡◌}
use Rattle.clause_limits.proofs.Measures.{clause_deeper_from}
use Rattle.clause_limits.proofs.measure.is_clause_deeper.Given as goal

abbrev pub invariant-loop-literal : goal.invariant-loop-literal
invariant-loop-literal l = clause_deeper_from l.levels l.literal-items 0 ≡ clause_deeper_from l.levels l.literal-items l.literal-index
