-- Those so far and those that are left.
use Rattle.std.proofs.Common.{◌≡◌, List, drop, max}
use Rattle.carried_answers.specs.Above.{AreAbove}
use Rattle.carried_answers.proofs.FreshSteps.{above_atoms}
use Rattle.carried_answers.proofs.fresh.above_literals.Given as goal
use Rattle.fol_core.specs.Tree.{Tree}

abbrev pub invariant-loop-literal : goal.invariant-loop-literal
invariant-loop-literal l = (bank : List Tree) → AreAbove bank l.above → max l.most (above_atoms bank (drop l.literal-index l.literals)) ≡ above_atoms bank l.literals
