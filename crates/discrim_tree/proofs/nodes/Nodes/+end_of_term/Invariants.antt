-- The arguments from here on are left, also where branches are taken away.
use Rattle.std.proofs.Common.{ℕ, List, ◌++◌, drop}
use Rattle.fol_core.specs.TermView.{tree_of, tree_list}
use Rattle.discrim_tree.specs.Nodes.{Store, Grows, Reaches}
use Rattle.discrim_tree.specs.Paths.{path_of, steps_of}
use Rattle.discrim_tree.specs.declared.edge.Edge.{Edge}
use Rattle.discrim_tree.proofs.nodes.Nodes.+end_of_term.Given as goal

abbrev pub invariant-loop-term : goal.invariant-loop-term
invariant-loop-term l =
    (fewer : Store) (rest : List Edge) (n : ℕ) → Grows fewer l.self.items → Reaches fewer l.at (path_of (tree_of l.t) ++ rest) n
    → Reaches fewer l.end (steps_of (tree_list (drop l.term-index l.term-items)) ++ rest) n
