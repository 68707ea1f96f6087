-- The row so far is one of a literal.
use Rattle.std.proofs.Common.{◌≡◌, ◌<◌, true, IfSome, length, map}
use Rattle.std.specs.List.{list_any}
use Rattle.fol_core.specs.ClauseView.{literal_of}
use Rattle.weights.specs.HintIndex.{looks_up}
use Rattle.weights.proofs.hint_index.shortest_row.Given as goal

abbrev pub invariant-loop-literal : goal.invariant-loop-literal
invariant-loop-literal l = record {
  bound : IfSome l.shortest (λ r. r < length l.rows);
  row : IfSome l.shortest (λ r. list_any (looks_up (length l.rows) r) (map literal_of l.literal-items) ≡ true);
}
