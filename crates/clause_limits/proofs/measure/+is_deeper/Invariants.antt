-- The arguments from here on decide.
use Rattle.std.proofs.Common.{◌≡◌, ◌-◌}
use Rattle.clause_limits.proofs.Measures.{deeper_from}
use Rattle.clause_limits.proofs.measure.+is_deeper.Given as goal

abbrev pub invariant-loop-term : goal.invariant-loop-term
invariant-loop-term l = deeper_from (l.levels - 1) l.term-items 0 ≡ deeper_from (l.levels - 1) l.term-items l.term-index
