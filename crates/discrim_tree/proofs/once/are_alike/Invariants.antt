-- Parts at the places before are the same.
use Rattle.std.proofs.Common.{drop}
use Rattle.fol_core.specs.TermView.{tree_of}
use Rattle.discrim_tree.specs.Places.{AreAlike}
use Rattle.discrim_tree.proofs.once.are_alike.Given as goal

abbrev pub invariant-loop-repeat : goal.invariant-loop-repeat
invariant-loop-repeat l = record {
  on : AreAlike (tree_of l.t) (drop l.repeat-index l.repeats) → AreAlike (tree_of l.t) l.repeats;
  back : AreAlike (tree_of l.t) l.repeats → AreAlike (tree_of l.t) (drop l.repeat-index l.repeats);
}
