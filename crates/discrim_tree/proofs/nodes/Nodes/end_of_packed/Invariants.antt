-- Along the steps of the first heads, also where some are taken away.
use Rattle.std.proofs.Common.{ℕ, drop, map}
use Rattle.packed_terms.specs.Heads.{heads}
use Rattle.discrim_tree.specs.Nodes.{Store, Grows, Reaches}
use Rattle.discrim_tree.specs.Paths.{edge_of, path_of}
use Rattle.discrim_tree.proofs.nodes.Nodes.end_of_packed.Given as goal

abbrev pub invariant-loop-i : goal.invariant-loop-i
invariant-loop-i l =
    (fewer : Store) (n : ℕ) → Grows fewer l.self.items → Reaches fewer 0 (path_of l.tree) n
    → Reaches fewer l.at (map edge_of (drop l.i (heads l.tree))) n
