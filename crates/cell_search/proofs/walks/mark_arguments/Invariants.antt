-- the variables of those so far are marked
use Rattle.std.proofs.Common.{◌≡◌, drop, map}
use Rattle.fol_core.specs.Tree.{trees_of}
use Rattle.fol_core.specs.TermView.{tree_of}
use Rattle.cell_search.specs.Marks.{all_nested_in}
use Rattle.cell_search.proofs.walks.mark_arguments.Given as goal

abbrev pub invariant-loop-term : goal.invariant-loop-term
invariant-loop-term l = all_nested_in (trees_of (map tree_of (drop l.term-index l.term-items))) l.marks ≡ all_nested_in (trees_of (map tree_of l.term-items)) l.fn.marks
