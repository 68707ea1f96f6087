-- the greatest so far and of those to come is that of all
use Rattle.std.proofs.Common.{◌≡◌, ◌≤◌, ◌^◌, max, drop}
use Rattle.fol_core.specs.Tree.{trees_of}
use Rattle.fol_core.specs.TermView.{tree_list}
use Rattle.mace_ground.specs.Instances.{above_all_variables}
use Rattle.mace_ground.proofs.variables.+above_variables.Given as goal

abbrev pub invariant-loop-term : goal.invariant-loop-term
invariant-loop-term l = record {
  few : l.above ≤ 2 ^ 64;
  all : max l.above (above_all_variables (trees_of (tree_list (drop l.term-index l.term-items)))) ≡ above_all_variables (trees_of (tree_list l.term-items));
}
