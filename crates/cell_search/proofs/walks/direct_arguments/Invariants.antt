-- those so far are marked and listed; so many are behind
use Rattle.std.proofs.Common.{◌≡◌, ◌+◌, ◌++◌, drop, length, map}
use Rattle.fol_core.specs.Tree.{trees_of}
use Rattle.fol_core.specs.TermView.{tree_of}
use Rattle.cell_search.specs.Marks.{direct_in, directs}
use Rattle.cell_search.proofs.walks.direct_arguments.Given as goal

abbrev pub invariant-loop-term : goal.invariant-loop-term
invariant-loop-term l = record {
  behind : l.behind + l.term-index ≡ length l.term-items;
  marks : direct_in (trees_of (map tree_of (drop l.term-index l.term-items))) l.marks ≡ direct_in (trees_of (map tree_of l.term-items)) l.fn.marks;
  direct : l.direct.items ++ directs l.size (trees_of (map tree_of (drop l.term-index l.term-items))) ≡ directs l.size (trees_of (map tree_of l.term-items));
}
