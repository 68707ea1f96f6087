use Rattle.std.proofs.Common.{subst, sym}
use Rattle.given_clause.specs.States.{state_of}
use Rattle.prover_steps.specs.HeldOrder.{IsInOrder}
use Rattle.given_clause.proofs.processing.after_kept.Goals as goal

pub work_back-requires-clause-ordered : goal.work_back-requires-clause-ordered
work_back-requires-clause-ordered c =
    subst IsInOrder (sym c.in_ok-meet_units.ensures.state) ((c.steps_keep_order.ensures.meeting (state_of c.args.search.now) c.args.held.now).order c.requires.ordered)
