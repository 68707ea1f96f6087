-- What is left of the turns picks what all do.
use Rattle.std.proofs.Common.{◌≡◌}
use Rattle.given_clause.specs.Guides.{setting_of}
use Rattle.prover_steps.specs.Picking.{picked_from, turns_of}
use Rattle.given_clause.proofs.picking.picked_from.Given as goal

abbrev pub invariant-loop-left : goal.invariant-loop-left
invariant-loop-left l =
    picked_from l.guide.options (setting_of l.guide).weight l.waiting.held (turns_of l.guide.options) l.fn.turn
    ≡ picked_from l.guide.options (setting_of l.guide).weight l.waiting.held l.left l.n

abbrev pub decreases-loop-left : goal.decreases-loop-left
decreases-loop-left l = l.left
