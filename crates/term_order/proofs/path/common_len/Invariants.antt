-- The terms so far are the same.
use Rattle.term_order.proofs.Fronts.{AreFronts}
use Rattle.term_order.proofs.path.common_len.Given as goal

abbrev pub invariant-loop-i : goal.invariant-loop-i
invariant-loop-i l = AreFronts l.bank l.ss l.ts l.i
