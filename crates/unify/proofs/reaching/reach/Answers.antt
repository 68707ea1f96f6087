-- One node further.
use Rattle.std.proofs.Common.{◌∙◌, ◌<◌, ◌≤◌, ◌+◌, length, vec_capacity, arith, subst, sym}
use Rattle.unify.specs.Spots.{In}
use Rattle.unify.specs.Reaches.{IsClosed}
use Rattle.unify.proofs.Closing.{in_at, is_reach, done_all}
use Rattle.unify.proofs.Spreads.{reach_next, still_starts, longer_length}
use Rattle.unify.proofs.reaching.reach.Goals as goal

pub expand-requires : goal.expand-requires
expand-requires c =
    let lt : c.loop-done.done < length c.loop-done.reached.items = omega (arith, c.loop-done-test.true, c.len.ensures, c.loop-done.reached.ok.0) in
    record {
      reaching = c.loop-done.invariant.reaching;
      there = subst (λ p. In p c.loop-done.reached.items) (sym c.index-next.ensures) (in_at c.loop-done.reached.items c.loop-done.done c.index-next.result.now lt);
    }

pub loop-done-preserved : goal.loop-done-preserved
loop-done-preserved c =
    let lt : c.loop-done.done < length c.loop-done.reached.items = omega (arith, c.loop-done-test.true, c.len.ensures, c.loop-done.reached.ok.0) in
    let e = c.expand.ensures.expands in
    let grown = longer_length c.loop-done.reached.items c.expand.new.reached.items e.longer in
    let within : c.loop-done.done + 1 ≤ length c.expand.new.reached.items = omega (arith, lt, grown) in
    record {
      reaching = e.reaching;
      starts = still_starts c.args.spot c.loop-done.reached.items c.expand.new.reached.items e.longer c.loop-done.invariant.starts;
      closed = reach_next c.args.bank.now c.args.bound.now.items c.loop-done.reached.items c.expand.new.reached.items c.loop-done.done (vec_capacity c.expand.new.reached) c.index-next.result.now
          c.loop-done.invariant.closed lt c.index-next.ensures e;
      within = within;
      room = c.expand.ensures.room ∙ c.loop-done.invariant.room;
    }

pub returns-clause-reach : goal.returns-clause-reach
returns-clause-reach c =
    let le : length c.loop-done.reached.items ≤ c.loop-done.done = omega (arith, c.loop-done-test.false, c.len.ensures, c.loop-done.reached.ok.0) in
    is_reach c.args.bank.now c.args.bound.now.items c.args.spot c.loop-done.reached.items (vec_capacity c.loop-done.reached) c.loop-done.invariant.reaching c.loop-done.invariant.starts
    (done_all (IsClosed c.args.bank.now c.args.bound.now.items c.loop-done.reached.items) c.loop-done.reached.items c.loop-done.done c.loop-done.invariant.closed le)
