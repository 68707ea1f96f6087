-- Clause by clause.
use Rattle.std.proofs.Common.{◌≡◌, ℕ, Option, None, arith, subst, rules}
use Rattle.given_clause.specs.Guides.{setting_of}
use Rattle.given_clause.specs.States.{state_of}
use Rattle.prover.proofs.Draining.{one_drained, proof_drained}
use Rattle.prover.proofs.Going.{falls_at, queue_here}
use Rattle.prover.proofs.processing.drain.Goals as goal
use Rattle.prover.specs.Answers.{HasQueue, FindsAtOnce}

pub advance-requires-clause-queued : goal.advance-requires-clause-queued
advance-requires-clause-queued c = queue_here c.loop-search.search.queue.items c.loop-search.search.queue.len c.is_empty.result c.is_empty.ensures c.loop-search.search.queue.ok.0 (search rules)

pub loop-search-smaller : goal.loop-search-smaller
loop-search-smaller c =
    let s = state_of c.loop-search.search in
    let going : s.ended ≡ None = search rules in
    let queued : HasQueue s = queue_here c.loop-search.search.queue.items c.loop-search.search.queue.len c.is_empty.result c.is_empty.ensures c.loop-search.search.queue.ok.0 (search rules) in
    (falls_at c.searches_end.ensures.queue (setting_of c.args.guide.now) s (state_of c.advance.new.search) c.in-Ok-None.ensures.next going queued).0

pub loop-search-preserved : goal.loop-search-preserved
loop-search-preserved c =
    let s = state_of c.loop-search.search in
    let u = state_of c.advance.new.search in
    let going : s.ended ≡ None = search rules in
    let queued : HasQueue s = queue_here c.loop-search.search.queue.items c.loop-search.search.queue.len c.is_empty.result c.is_empty.ensures c.loop-search.search.queue.ok.0 (search rules) in
    record {
      drained = one_drained c.searches_end.ensures.queue c.searches_stay_in_order.ensures.next (setting_of c.args.guide.now) (state_of c.args.search.now) s u c.loop-search.invariant.drained going queued c.in-Ok-None.ensures.next
          (subst (λ (o : Option ℕ). FindsAtOnce s u o) c.in-Ok-None.field-0-is c.in-Ok-None.ensures.found);
      noted = c.in-Ok-None.ensures.noted;
      on = omega (arith, c.loop-search.invariant.on, c.advance.ensures.on);
    }

pub returns-in-Ok-Some-clause-left : goal.returns-in-Ok-Some-clause-left
returns-in-Ok-Some-clause-left c =
    let s = state_of c.loop-search.search in
    let going : s.ended ≡ None = search rules in
    let queued : HasQueue s = queue_here c.loop-search.search.queue.items c.loop-search.search.queue.len c.is_empty.result c.is_empty.ensures c.loop-search.search.queue.ok.0 (search rules) in
    omega (arith, c.loop-search.invariant.drained.left, (falls_at c.searches_end.ensures.queue (setting_of c.args.guide.now) s (state_of c.advance.new.search) c.in-Ok-Some.ensures.next going queued).1)

pub returns-in-Ok-Some-clause-drains : goal.returns-in-Ok-Some-clause-drains
returns-in-Ok-Some-clause-drains c =
    let s = state_of c.loop-search.search in
    let u = state_of c.advance.new.search in
    let going : s.ended ≡ None = search rules in
    let queued : HasQueue s = queue_here c.loop-search.search.queue.items c.loop-search.search.queue.len c.is_empty.result c.is_empty.ensures c.loop-search.search.queue.ok.0 (search rules) in
    proof_drained (setting_of c.args.guide.now) (state_of c.args.search.now) s u c.in-Ok-Some.line c.loop-search.invariant.drained going queued c.in-Ok-Some.ensures.next (subst (λ (o : Option ℕ). FindsAtOnce s u o) c.in-Ok-Some.field-0-is c.in-Ok-Some.ensures.found)
