-- A step that leads to the node is among the branches that are left.
use Rattle.std.proofs.Common.{◌≡◌, Some, drop}
use Rattle.discrim_tree.specs.Contents.{target}
use Rattle.discrim_tree.specs.declared.edge.Edge.{Edge}
use Rattle.discrim_tree.proofs.contents.Contents.step_to.Given as goal

abbrev pub invariant-loop-step : goal.invariant-loop-step
invariant-loop-step l = (edge : Edge) → target l.step-items edge ≡ Some l.node → target (drop l.step-index l.step-items) edge ≡ Some l.node
