-- What is left is behind the terms so far.
use Rattle.std.proofs.Common.{◌≡◌, ◌+◌}
use Rattle.clause_limits.proofs.Measures.{sizes_from}
use Rattle.answers.proofs.measure.left_behind_terms.Given as goal

abbrev pub invariant-loop-term : goal.invariant-loop-term
invariant-loop-term l = l.left + sizes_from l.terms 0 ≡ l.room + sizes_from l.terms l.term-index
