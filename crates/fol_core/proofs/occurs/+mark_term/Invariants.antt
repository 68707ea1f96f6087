-- the arguments so far are marked: to mark those to come marks all
use Rattle.std.proofs.Common.{◌≡◌, ◌<◌, ◌||◌, false, ℕ, drop, length, slice_index_or}
use Rattle.fol_core.specs.Tree.{trees_of}
use Rattle.fol_core.specs.TermView.{tree_list}
use Rattle.fol_core.specs.Bound.{have_symbol}
use Rattle.fol_core.proofs.occurs.+mark_term.Given as goal

abbrev pub invariant-loop-term : goal.invariant-loop-term
invariant-loop-term l = (s : ℕ) → s < length l.initial.marks
    → (slice_index_or l.marks s false || have_symbol s (trees_of (tree_list (drop l.term-index l.term-items))))
    ≡ (slice_index_or l.initial.marks s false || have_symbol s (trees_of (tree_list l.term-items)))
