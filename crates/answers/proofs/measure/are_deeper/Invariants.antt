-- The terms left decide.
use Rattle.std.proofs.Common.{◌≡◌}
use Rattle.clause_limits.proofs.Measures.{deeper_from}
use Rattle.answers.proofs.measure.are_deeper.Given as goal

abbrev pub invariant-loop-term : goal.invariant-loop-term
invariant-loop-term l = deeper_from l.levels l.terms 0 ≡ deeper_from l.levels l.terms l.term-index
