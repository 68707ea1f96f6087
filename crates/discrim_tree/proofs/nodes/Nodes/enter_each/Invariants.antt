-- The branches that are left, and those that came.
use Rattle.std.proofs.Common.{drop}
use Rattle.discrim_tree.specs.Walks.{GoesOn, IsSkipped}
use Rattle.discrim_tree.proofs.Returning.{AreBranches}
use Rattle.discrim_tree.proofs.WalkSteps.{AreLeft}
use Rattle.discrim_tree.proofs.nodes.Nodes.enter_each.Given as goal

abbrev pub invariant-loop-edge : goal.invariant-loop-edge
invariant-loop-edge l =
    GoesOn l.initial.waiting.items l.waiting.items ×
    AreLeft l.self.items l.at (drop l.edge-index l.branches) l.count l.waiting.items ×
    AreBranches l.self.items l.at l.branches ×
    IsSkipped l.self.items l.at l.count l.initial.waiting.items l.waiting.items
