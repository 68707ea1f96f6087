-- what is needed so far and for the formulas to come is what is needed for all
use Rattle.std.proofs.Common.{◌≡◌, max, drop}
use Rattle.fol_core.specs.Occurs.{size_needed}
use Rattle.fol_problem.specs.Stated.{all_said}
use Rattle.clausify.specs.Input.{formulas}
use Rattle.clausify.proofs.seen.above_all.Given as goal

abbrev pub invariant-loop-input : goal.invariant-loop-input
invariant-loop-input l = max l.above (size_needed (formulas (all_said (drop l.input-index l.inputs)))) ≡ size_needed (formulas (all_said l.inputs))
