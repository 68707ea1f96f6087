-- The rules before.
use Rattle.std.proofs.Common.{◌≡◌, take}
use Rattle.fol_problem.specs.Stated.{all_said}
use Rattle.prover_setup.proofs.starting.rules_of.Given as goal
use Rattle.prover_steps.specs.Starting.{rules_of}

abbrev pub invariant-loop-i : goal.invariant-loop-i
invariant-loop-i l = l.rules ≡ rules_of (all_said l.inputs) l.first (take l.i l.clauses)
