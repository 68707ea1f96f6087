-- The place stands in the first rows.
use Rattle.std.proofs.Common.{◌≡◌, ℕ, ◌<◌, if◌then◌else◌, [], ◌∷◌, ◌++◌, length, take}
use Rattle.weights.specs.HintIndex.{is_among, row_items}
use Rattle.weights.proofs.hint_index.add_place.Given as goal

abbrev pub invariant-loop-i : goal.invariant-loop-i
invariant-loop-i l = record {
  len : length l.rows.items ≡ length l.fn.rows.items;
  rows : (r : ℕ) → r < length l.fn.rows.items → row_items l.rows.items r ≡ row_items l.fn.rows.items r ++ (if is_among (take l.i l.named) r then l.place ∷ [] else []);
}
