-- Answer by answer.
use Rattle.std.proofs.Common.{◌≡◌, ◌∙◌, ℕ, Option, Ok, None, ap, subst, arith, rules}
use Rattle.std.specs.Option.{option_map}
use Rattle.given_clause.specs.Guides.{setting_of}
use Rattle.given_clause.specs.States.{reason_of, state_of}
use Rattle.prover.proofs.Answering.{ended, found, late, lacking_behind}
use Rattle.prover.proofs.Giving.{queue_sought, given_sought}
use Rattle.prover.proofs.Going.{queue_empty}
use Rattle.prover.proofs.seeking.seek.Goals as goal
use Rattle.prover.specs.Answers.{DrainsTo, Rings, IsOver}
use Rattle.search_clock.proofs.Clocks.{in_time}

pub returns-in-Ok-Some-clause-runs : goal.returns-in-Ok-Some-clause-runs
returns-in-Ok-Some-clause-runs g c =
    let st = setting_of c.args.guide.now in
    let seconds = c.args.watch.now.seconds in
    let s = state_of c.args.search.now in
    let t = state_of c.loop-line.search in
    let u = state_of c.drain.new.search in
    let a = g.C.Clock.times c.args.clock.now in
    let b = g.C.Clock.times c.loop-line.clock in
    let h = c.loop-line.invariant.sought in
    let drained = subst (λ (o : Option ℕ). DrainsTo st t u (Ok o)) c.in-Ok-Some.field-0-is c.in-Ok-Some.ensures.drains in
    found st seconds s t a b h u c.in-Ok-Some.line drained (in_time c.loop-line.watch seconds b c.loop-line.invariant.seconds c.loop-line.invariant.watched)

pub returns-in-Some-clause-runs : goal.returns-in-Some-clause-runs
returns-in-Some-clause-runs g c =
    let st = setting_of c.args.guide.now in
    let seconds = c.args.watch.now.seconds in
    let s = state_of c.args.search.now in
    let t = state_of c.loop-line.search in
    let u = state_of c.drain.new.search in
    let a = g.C.Clock.times c.args.clock.now in
    let b = g.C.Clock.times c.loop-line.clock in
    let h = c.loop-line.invariant.sought in
    let drained = subst (λ (o : Option ℕ). DrainsTo st t u (Ok o)) c.in-Ok-None.field-0-is c.in-Ok-None.ensures.drains in
    let sought = queue_sought st seconds s t u a b h drained.0 drained.2 (c.searches_stay_in_order.ensures.reached st t u h.ordered drained.0.reached) in
    ended st seconds s u a b sought (reason_of c.in-Some.reason) c.answer_for.result c.answer_for.ensures (ap (option_map reason_of) c.in-Some.is) (in_time c.loop-line.watch seconds b c.loop-line.invariant.seconds c.loop-line.invariant.watched)

pub returns-in-Some-ring-clause-runs : goal.returns-in-Some-ring-clause-runs
returns-in-Some-ring-clause-runs g c =
    let st = setting_of c.args.guide.now in
    let seconds = c.args.watch.now.seconds in
    let s = state_of c.args.search.now in
    let t = state_of c.loop-line.search in
    let u = state_of c.drain.new.search in
    let a = g.C.Clock.times c.args.clock.now in
    let b = g.C.Clock.times c.loop-line.clock in
    let h = c.loop-line.invariant.sought in
    let drained = subst (λ (o : Option ℕ). DrainsTo st t u (Ok o)) c.in-Ok-None.field-0-is c.in-Ok-None.ensures.drains in
    let sought = queue_sought st seconds s t u a b h drained.0 drained.2 (c.searches_stay_in_order.ensures.reached st t u h.ordered drained.0.reached) in
    let now = g.C.Clock.times c.ring.new.clock in
    let rings = subst (λ (x : Option ℕ). Rings st x u b now) c.loop-line.invariant.seconds c.ring.ensures.rings in
    late st seconds s u a b sought now c.in-Some-ring.over rings (subst (λ (x : Option ℕ). IsOver st x u now c.in-Some-ring.over) c.loop-line.invariant.seconds c.in-Some-ring.ensures.late)

pub step-requires-clause-ordered : goal.step-requires-clause-ordered
step-requires-clause-ordered g c =
    let st = setting_of c.args.guide.now in
    let seconds = c.args.watch.now.seconds in
    let s = state_of c.args.search.now in
    let t = state_of c.loop-line.search in
    let u = state_of c.drain.new.search in
    let a = g.C.Clock.times c.args.clock.now in
    let b = g.C.Clock.times c.loop-line.clock in
    let h = c.loop-line.invariant.sought in
    let drained = subst (λ (o : Option ℕ). DrainsTo st t u (Ok o)) c.in-Ok-None.field-0-is c.in-Ok-None.ensures.drains in
    let sought = queue_sought st seconds s t u a b h drained.0 drained.2 (c.searches_stay_in_order.ensures.reached st t u h.ordered drained.0.reached) in
    sought.ordered

pub loop-line-preserved : goal.loop-line-preserved
loop-line-preserved g c =
    let st = setting_of c.args.guide.now in
    let seconds = c.args.watch.now.seconds in
    let s = state_of c.args.search.now in
    let t = state_of c.loop-line.search in
    let u = state_of c.drain.new.search in
    let a = g.C.Clock.times c.args.clock.now in
    let b = g.C.Clock.times c.loop-line.clock in
    let h = c.loop-line.invariant.sought in
    let drained = subst (λ (o : Option ℕ). DrainsTo st t u (Ok o)) c.in-Ok-None.field-0-is c.in-Ok-None.ensures.drains in
    let sought = queue_sought st seconds s t u a b h drained.0 drained.2 (c.searches_stay_in_order.ensures.reached st t u h.ordered drained.0.reached) in
    let now = g.C.Clock.times c.ring.new.clock in
    let rings = subst (λ (x : Option ℕ). Rings st x u b now) c.loop-line.invariant.seconds c.ring.ensures.rings in
    let ensured = c.in_default-ring.ensures in
    let going : u.ended ≡ None = search rules in
    record {
      sought = given_sought c.ends_have_reasons.ensures.picking c.searches_stay_in_order.ensures.next st seconds s u (state_of c.step.new.search) a b now sought going (queue_empty u drained.1 going) c.in-Ok.ensures.state rings;
      noted = c.in-Ok.ensures.noted;
      on = omega (arith, c.loop-line.invariant.on, c.drain.ensures.on, c.step.ensures.on);
      seconds = ensured.seconds ∙ c.loop-line.invariant.seconds;
      watched = ensured.late;
      begun = ensured.begun;
    }

pub returns-in-Err-step-clause-runs : goal.returns-in-Err-step-clause-runs
returns-in-Err-step-clause-runs g c =
    let st = setting_of c.args.guide.now in
    let seconds = c.args.watch.now.seconds in
    let s = state_of c.args.search.now in
    let t = state_of c.loop-line.search in
    let u = state_of c.drain.new.search in
    let a = g.C.Clock.times c.args.clock.now in
    let b = g.C.Clock.times c.loop-line.clock in
    let h = c.loop-line.invariant.sought in
    let drained = subst (λ (o : Option ℕ). DrainsTo st t u (Ok o)) c.in-Ok-None.field-0-is c.in-Ok-None.ensures.drains in
    let sought = queue_sought st seconds s t u a b h drained.0 drained.2 (c.searches_stay_in_order.ensures.reached st t u h.ordered drained.0.reached) in
    let now = g.C.Clock.times c.ring.new.clock in
    let rings = subst (λ (x : Option ℕ). Rings st x u b now) c.loop-line.invariant.seconds c.ring.ensures.rings in
    let ensured = c.in_default-ring.ensures in
    lacking_behind st seconds s u a b sought (state_of c.step.new.search) now c.in-Err-step.error rings (in_time c.ring.new.watch seconds now (ensured.seconds ∙ c.loop-line.invariant.seconds) ensured.late)
