-- What is left with the arguments from here on makes up the number.
use Rattle.std.proofs.Common.{◌≡◌, ◌+◌}
use Rattle.clause_limits.proofs.Measures.{sizes_from}
use Rattle.clause_limits.proofs.measure.+left_behind.Given as goal

abbrev pub invariant-loop-term : goal.invariant-loop-term
invariant-loop-term l = l.left + (1 + sizes_from l.term-items 0) ≡ l.room + sizes_from l.term-items l.term-index
