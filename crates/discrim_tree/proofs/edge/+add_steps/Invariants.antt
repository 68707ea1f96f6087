-- The arguments from here on are left.
use Rattle.std.proofs.Common.{◌≡◌, ◌++◌, drop}
use Rattle.fol_core.specs.TermView.{tree_of, tree_list}
use Rattle.discrim_tree.specs.Paths.{path_of, steps_of}
use Rattle.discrim_tree.proofs.edge.+add_steps.Given as goal

abbrev pub invariant-loop-term : goal.invariant-loop-term
invariant-loop-term l = l.path.items ++ steps_of (tree_list (drop l.term-index l.term-items)) ≡ l.fn.path.items ++ path_of (tree_of l.t)
