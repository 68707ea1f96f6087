-- Those so far and those that are left.
use Rattle.std.proofs.Common.{◌≡◌, List, drop, max}
use Rattle.carried_answers.specs.Above.{AreAbove}
use Rattle.carried_answers.proofs.FreshSteps.{above_parts}
use Rattle.carried_answers.proofs.fresh.above_parts.Given as goal
use Rattle.fol_core.specs.Tree.{Tree}

abbrev pub invariant-loop-part : goal.invariant-loop-part
invariant-loop-part l = (bank : List Tree) → AreAbove bank l.above → max l.most (above_parts bank (drop l.part-index l.parts)) ≡ above_parts bank l.parts
