-- What is found in the rest makes up what is found in all.
use Rattle.std.proofs.Common.{◌≡◌, drop}
use Rattle.fol_core.specs.Tree.{trees_of}
use Rattle.fol_core.specs.TermView.{tree_list}
use Rattle.fol_core.specs.Free.{joined, variables_of_all}
use Rattle.fol_core.specs.Outside.{outside}
use Rattle.fol_core.proofs.free.add_variables_of_all.Given as goal

abbrev pub invariant-loop-term : goal.invariant-loop-term
invariant-loop-term l =
    joined l.found.keys (outside l.bound (variables_of_all (trees_of (tree_list (drop l.term-index l.term-items)))))
    ≡ joined l.initial.found.keys (outside l.bound (variables_of_all (trees_of l.terms)))
