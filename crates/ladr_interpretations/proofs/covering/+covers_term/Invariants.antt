-- those to come decide
use Rattle.std.proofs.Common.{◌≡◌, drop}
use Rattle.fol_core.specs.TermView.{tree_list}
use Rattle.fol_core.specs.Tree.{trees_of}
use Rattle.ladr_interpretations.specs.Covers.{covers_terms}
use Rattle.ladr_interpretations.proofs.covering.+covers_term.Given as goal

abbrev pub invariant-loop-term : goal.invariant-loop-term
invariant-loop-term l =
    covers_terms l.tables (trees_of (tree_list (drop l.term-index l.term-items))) ≡ covers_terms l.tables (trees_of (tree_list l.term-items))
