-- Along the steps of the first marks, also where some are taken away.
use Rattle.std.proofs.Common.{ℕ, drop, map}
use Rattle.discrim_tree.specs.Marks.{mark_step}
use Rattle.discrim_tree.specs.Nodes.{Store, Grows, Reaches}
use Rattle.discrim_tree.proofs.nodes.Nodes.end_of_marks.Given as goal

abbrev pub invariant-loop-mark : goal.invariant-loop-mark
invariant-loop-mark l =
    (fewer : Store) (n : ℕ) → Grows fewer l.self.items → Reaches fewer 0 (map mark_step l.marks) n
    → Reaches fewer l.at (map mark_step (drop l.mark-index l.marks)) n
