-- The lines so far are read.
use Rattle.proof_check.specs.Reached.{Going}
use Rattle.stated_lines.specs.Held.{asked_inputs, rows_with}
use Rattle.proof_check.proofs.checking.check_behind.Given as goal

abbrev pub invariant-loop-i : goal.invariant-loop-i
invariant-loop-i l = Going (asked_inputs l.inputs) (rows_with l.rows l.answers) l.lines l.i
