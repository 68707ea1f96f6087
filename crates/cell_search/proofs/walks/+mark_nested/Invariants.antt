-- an argument has fewer nodes; the variables of those so far are marked
use Rattle.std.proofs.Common.{◌≡◌, drop, map}
use Rattle.fol_core.specs.Tree.{trees_of}
use Rattle.cell_search.specs.Marks.{all_nested_in}
use Rattle.fol_core.specs.Tree.{nodes}
use Rattle.fol_core.specs.TermView.{tree_of}
use Rattle.cell_search.proofs.walks.+mark_nested.Given as goal

abbrev pub decreases-mark_nested : goal.decreases-mark_nested
decreases-mark_nested l = nodes (tree_of l.term.now)

abbrev pub invariant-loop-term : goal.invariant-loop-term
invariant-loop-term l = all_nested_in (trees_of (map tree_of (drop l.term-index l.term-items))) l.marks ≡ all_nested_in (trees_of (map tree_of l.term-items)) l.fn.marks
