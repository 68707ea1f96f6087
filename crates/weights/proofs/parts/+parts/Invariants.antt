-- A term in others is smaller; the terms from here on decide.
use Rattle.std.proofs.Common.{◌≡◌, ◌+◌, ◌<◌, drop}
use Rattle.fol_core.specs.Sizes.{sizes_of}
use Rattle.fol_core.specs.TermView.{tree_of, tree_list}
use Rattle.fol_core.specs.Tree.{nodes, nodes_of, trees_of}
use Rattle.weights.specs.Parts.{stands_among, place_among}
use Rattle.weights.proofs.Listed.{parts_from}
use Rattle.weights.proofs.parts.+parts.Given as goal

abbrev pub decreases-stands_in : goal.decreases-stands_in
decreases-stands_in l = nodes (tree_of l.term.now)

abbrev pub decreases-stands_in_some : goal.decreases-stands_in_some
decreases-stands_in_some l = nodes_of (trees_of l.terms.now) + 1

abbrev pub invariant-stands_in_some-loop-term : goal.invariant-stands_in_some-loop-term
invariant-stands_in_some-loop-term l = record {
  stands : stands_among (parts_from l.term-items 0) (tree_of l.sought) ≡ stands_among (parts_from l.term-items l.term-index) (tree_of l.sought);
  place : l.fn.place + place_among (parts_from l.term-items 0) (tree_of l.sought) ≡ l.place + place_among (parts_from l.term-items l.term-index) (tree_of l.sought);
  room : l.place + sizes_of (trees_of (tree_list (drop l.term-index l.term-items))) < 18446744073709551616;
}
