-- The states that come after a clause stands in order stand so too.
use Rattle.std.proofs.Common.{rules}
use Rattle.given_clause.specs.States.{state_of}
use Rattle.prover.proofs.Draining.{in_order_next}
use Rattle.prover.proofs.standing.Prover.given_step.Goals as goal
use Rattle.prover.specs.Provers.{setting_at, state_at}

pub returns-clause-fit : goal.returns-clause-fit
returns-clause-fit c =
    let st = setting_at c.args.self.now in
    let fit = c.requires.fit (search rules) in
    let s = state_of c.step.new.search in
    let settles = c.in_ok-settle.ensures.settles in
    record {
      ordered = c.searches_stay_in_order.ensures.reached st s (state_of c.settle.new.search) (in_order_next c.searches_stay_in_order.ensures.next st (state_at c.args.self.now) s fit.ordered c.in_ok-step.ensures.state) (settles.steps, settles.reached);
      noted = c.in_ok-settle.ensures.noted;
    }
