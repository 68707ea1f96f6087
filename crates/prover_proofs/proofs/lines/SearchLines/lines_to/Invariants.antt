-- The marked ones of the first lines, behind which nothing stands.
use Rattle.std.proofs.Common.{◌≡◌, map, take}
use Rattle.clause_store.specs.Lines.{plain_line, AreUnnoted}
use Rattle.prover_proofs.proofs.Taking.{marked_lines}
use Rattle.prover_proofs.proofs.lines.SearchLines.lines_to.Given as goal
use Rattle.prover_proofs.specs.SearchLines.{lines_in}

abbrev pub invariant-loop-place : goal.invariant-loop-place
invariant-loop-place l = record {
  lines : map plain_line l.lines.items ≡ marked_lines l.mark-items (take l.place (lines_in l.self));
  notes : AreUnnoted l.lines.items;
}
