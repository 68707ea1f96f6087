-- The rows so far, and those of the literals left.
use Rattle.std.proofs.Common.{◌≡◌, ◌++◌, drop, map}
use Rattle.fol_core.specs.ClauseView.{literal_of}
use Rattle.weights.specs.HintIndex.{rows_of}
use Rattle.weights.proofs.hint_index.rows_of.Given as goal

abbrev pub invariant-loop-literal : goal.invariant-loop-literal
invariant-loop-literal l =
    l.all.items ++ rows_of l.rows (map literal_of (drop l.literal-index l.literal-items))
    ≡ rows_of l.rows (map literal_of l.literal-items)
