-- what the rest adds makes up what all add
use Rattle.std.proofs.Common.{◌≡◌}
use Rattle.fol_core.specs.Free.{joined, variables_of}
use Rattle.fol_core.specs.TermView.{tree_of}
use Rattle.ladr_rules.proofs.Variables.{variables_from}
use Rattle.ladr_rules.proofs.shapes.+add_variables.Given as goal

abbrev pub invariant-loop-part : goal.invariant-loop-part
invariant-loop-part l = joined l.found.keys (variables_from l.part-items l.part-index) ≡ joined l.initial.found.keys (variables_of (tree_of l.term))
