-- The heads of the arguments from here on are left.
use Rattle.std.proofs.Common.{◌≡◌, ◌++◌, drop}
use Rattle.fol_core.specs.TermView.{tree_of, tree_list}
use Rattle.fol_core.specs.Tree.{trees_of}
use Rattle.packed_terms.specs.Heads.{heads, all_heads}
use Rattle.packed_terms.proofs.packing.+add_heads.Given as goal

abbrev pub invariant-loop-term : goal.invariant-loop-term
invariant-loop-term l =
    l.all.items ++ all_heads (trees_of (tree_list (drop l.term-index l.term-items))) ≡ l.fn.all.items ++ heads (tree_of l.t)
