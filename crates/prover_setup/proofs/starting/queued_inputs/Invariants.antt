-- The clauses before are queued.
use Rattle.std.proofs.Common.{◌≡◌, take, map}
use Rattle.fol_problem.specs.Stated.{all_said}
use Rattle.given_clause.specs.States.{entry_of}
use Rattle.prover_setup.proofs.starting.queued_inputs.Given as goal
use Rattle.prover_steps.specs.Starting.{queued_inputs}

abbrev pub invariant-loop-i : goal.invariant-loop-i
invariant-loop-i l = map entry_of l.queue.items ≡ queued_inputs (all_said l.inputs) l.first (take l.i l.clauses)
