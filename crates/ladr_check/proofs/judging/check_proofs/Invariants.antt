-- the proofs so far are refutations
use Rattle.std.proofs.Common.{take}
use Rattle.answered_lines.specs.View.{answered_rows_of, asked_of}
use Rattle.ladr_check.specs.Offered.{proofs_in}
use Rattle.ladr_check.specs.Outcomes.{AreRefutations}
use Rattle.ladr_check.proofs.judging.check_proofs.Given as goal

abbrev pub invariant-loop-i : goal.invariant-loop-i
invariant-loop-i l = AreRefutations (asked_of l.problem) (answered_rows_of l.clauses) (proofs_in (take l.i l.proofs))
