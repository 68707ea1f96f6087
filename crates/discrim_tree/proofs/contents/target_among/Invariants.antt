-- with the branches that are left a step leads where it leads with all
use Rattle.std.proofs.Common.{◌≡◌, drop}
use Rattle.discrim_tree.specs.Contents.{target}
use Rattle.discrim_tree.proofs.contents.target_among.Given as goal

abbrev pub invariant-loop-step : goal.invariant-loop-step
invariant-loop-step l = target (drop l.step-index l.branches) l.edge ≡ target l.branches l.edge
