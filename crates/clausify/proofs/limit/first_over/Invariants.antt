-- No formula so far is over the limit.
use Rattle.std.proofs.Common.{◌≡◌, ◌+◌, drop}
use Rattle.fol_problem.specs.Stated.{all_said}
use Rattle.clausify.specs.Input.{first_over}
use Rattle.clausify.proofs.limit.first_over.Given as goal

abbrev pub invariant-loop-place : goal.invariant-loop-place
invariant-loop-place l = first_over (l.place + 1) (all_said (drop l.place l.inputs)) ≡ first_over 1 (all_said l.inputs)
