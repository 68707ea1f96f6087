-- The greatest of the lines before, with the others.
use Rattle.std.proofs.Common.{◌≡◌, max}
use Rattle.prover_proofs.proofs.Remaining.{greatest_from}
use Rattle.prover_proofs.proofs.measures.greatest_size.Given as goal

abbrev pub invariant-loop-line : goal.invariant-loop-line
invariant-loop-line l = max l.greatest (greatest_from l.lines l.line-index) ≡ greatest_from l.lines 0
