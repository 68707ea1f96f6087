-- the lines so far
use Rattle.std.proofs.Common.{◌≡◌}
use Rattle.ladr_check.specs.CheckReport.{accepted_lines}
use Rattle.ladr_check.proofs.report.accepted_lines.Given as goal

abbrev pub invariant-loop-k : goal.invariant-loop-k
invariant-loop-k l = l.out.items ≡ accepted_lines l.k
