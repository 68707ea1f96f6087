-- The marked ones of the first lines, behind which nothing stands.
use Rattle.std.proofs.Common.{◌≡◌, map, take}
use Rattle.clause_store.specs.Lines.{plain_line, AreUnnoted}
use Rattle.clause_store.proofs.Kept.{marked_lines}
use Rattle.clause_store.proofs.store.Store.lines_to.Given as goal

abbrev pub invariant-loop-place : goal.invariant-loop-place
invariant-loop-place l = record {
  lines : map plain_line l.lines.items ≡ marked_lines l.bank l.marks.items (take l.place l.line-items);
  notes : AreUnnoted l.lines.items;
}
