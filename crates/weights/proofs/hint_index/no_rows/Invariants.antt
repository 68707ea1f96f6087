-- So many rows are there.
use Rattle.std.proofs.Common.{◌≡◌, ℕ, [], length}
use Rattle.weights.specs.HintIndex.{row_items}
use Rattle.weights.proofs.hint_index.no_rows.Given as goal

abbrev pub invariant-loop : goal.invariant-loop
invariant-loop l = record {
  len : length l.rows.items ≡ l.counter;
  none : (r : ℕ) → row_items l.rows.items r ≡ [];
}
