-- The occurrences in the arguments from here on are left.
use Rattle.std.proofs.Common.{◌≡◌, ◌+◌, ◌++◌, drop}
use Rattle.fol_core.specs.Tree.{trees_of}
use Rattle.fol_core.specs.TermView.{tree_of, tree_list}
use Rattle.discrim_tree.specs.Places.{all_occurrences, occurrences, AreNarrow, IsNarrow}
use Rattle.discrim_tree.proofs.once.+add_occurring.Given as goal

abbrev pub invariant-loop-i : goal.invariant-loop-i
invariant-loop-i l =
    let left = trees_of (tree_list (drop l.i l.term-items)) in
    record {
      added : l.found.items ++ all_occurrences l.place l.unit (l.i + 1) left ≡ l.fn.found.items ++ occurrences l.place l.unit (tree_of l.t);
      narrow : AreNarrow (l.i + 1) left → IsNarrow (tree_of l.t);
    }
