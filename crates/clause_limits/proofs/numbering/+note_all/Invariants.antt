-- What is found in the rest makes up what is found in all.
use Rattle.std.proofs.Common.{◌≡◌, drop}
use Rattle.fol_core.specs.Free.{joined, variables_of, variables_of_all}
use Rattle.fol_core.specs.TermView.{tree_of, tree_list}
use Rattle.fol_core.specs.Tree.{trees_of}
use Rattle.clause_limits.proofs.numbering.+note_all.Given as goal

abbrev pub invariant-loop-term : goal.invariant-loop-term
invariant-loop-term l =
    joined l.found.items (variables_of_all (trees_of (tree_list (drop l.term-index l.term-items))))
    ≡ joined l.initial.found.items (variables_of (tree_of l.term))
