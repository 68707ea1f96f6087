-- the lines so far, and those to come
use Rattle.std.proofs.Common.{◌≡◌, ◌+◌, ◌++◌, drop}
use Rattle.ladr_clausetester.specs.Report.{verdict_lines}
use Rattle.ladr_clausetester.proofs.report.formulas.Given as goal

abbrev pub invariant-loop-i : goal.invariant-loop-i
invariant-loop-i l = l.out.items ++ verdict_lines (l.i + 1) (drop l.i l.all) ≡ verdict_lines 1 l.all
