-- One clause more.
use Rattle.std.proofs.Common.{map}
use Rattle.given_clause.specs.States.{entry_of}
use Rattle.fol_problem.specs.Stated.{all_said}
use Rattle.prover_setup.proofs.Beginning.{queued_next}
use Rattle.prover_setup.proofs.starting.queued_inputs.Goals as goal

pub loop-i-preserved : goal.loop-i-preserved
loop-i-preserved c =
    queued_next (all_said c.args.inputs.now) c.args.first c.args.clauses.now c.loop-i.i c.index-clauses-i.result c.in_ok-number.number c.role_at-role.result c.loop-i-test.true c.index-clauses-i.is c.in_ok-number.ensures c.role_at-role.ensures
    (map entry_of c.loop-i.queue.items) (map entry_of c.queue_input.new.queue.items) c.in_ok-queue_input.ensures c.loop-i.invariant
