-- Clause by clause.
use Rattle.std.proofs.Common.{◌≡◌, None, arith, rules}
use Rattle.given_clause.specs.Guides.{setting_of}
use Rattle.given_clause.specs.States.{state_of}
use Rattle.prover.proofs.Draining.{one_settled}
use Rattle.prover.proofs.Going.{falls_at, queue_here}
use Rattle.prover.proofs.processing.settle.Goals as goal
use Rattle.prover.specs.Answers.{HasQueue}

pub loop-search-smaller : goal.loop-search-smaller
loop-search-smaller c =
    let s = state_of c.loop-search.search in
    let going : s.ended ≡ None = search rules in
    let queued : HasQueue s = queue_here c.loop-search.search.queue.items c.loop-search.search.queue.len c.is_empty.result c.is_empty.ensures c.loop-search.search.queue.ok.0 (search rules) in
    (falls_at c.searches_end.ensures.queue (setting_of c.args.guide.now) s (state_of c.step.new.search) c.in-Ok.ensures.state going queued).0

pub loop-search-preserved : goal.loop-search-preserved
loop-search-preserved c =
    let s = state_of c.loop-search.search in
    let going : s.ended ≡ None = search rules in
    let queued : HasQueue s = queue_here c.loop-search.search.queue.items c.loop-search.search.queue.len c.is_empty.result c.is_empty.ensures c.loop-search.search.queue.ok.0 (search rules) in
    record {
      settling = one_settled c.searches_stay_in_order.ensures.next (setting_of c.args.guide.now) (state_of c.args.search.now) s (state_of c.step.new.search) c.loop-search.invariant.settling going queued c.in-Ok.ensures.state;
      noted = c.in-Ok.ensures.noted;
      on = omega (arith, c.loop-search.invariant.on, c.step.ensures.on);
    }
