-- the greatest so far and of those to come is that of all
use Rattle.std.proofs.Common.{◌≡◌, ◌<◌, ◌^◌, max, drop}
use Rattle.fol_core.specs.Tree.{trees_of}
use Rattle.fol_core.specs.TermView.{tree_list}
use Rattle.fol_core.specs.Occurs.{above_all_elements}
use Rattle.fol_core.proofs.occurs.+above_term.Given as goal

abbrev pub invariant-loop-term : goal.invariant-loop-term
invariant-loop-term l = record {
  few : l.above < 2 ^ 33;
  all : max l.above (above_all_elements (trees_of (tree_list (drop l.term-index l.term-items)))) ≡ above_all_elements (trees_of (tree_list l.term-items));
}
