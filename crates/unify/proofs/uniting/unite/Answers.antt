-- One link further.
use Rattle.std.proofs.Common.{◌<◌, ◌≤◌, ◌+◌, length, arith}
use Rattle.unify.specs.Spots.{spot_tree}
use Rattle.unify.proofs.Classes.{IsSettled, link_there, goes_on, joined_at, joined_on, settled_on, begin_fulfils, are_made, longer_links}
use Rattle.unify.proofs.Closing.{done_next}
use Rattle.unify.proofs.Staying.{linked_on}
use Rattle.unify.proofs.uniting.unite.Goals as goal

pub open-requires : goal.open-requires
open-requires c =
    let lt : c.loop-done.done < length c.loop-done.work.links.items = omega (arith, c.loop-done-test.true, c.len.ensures, c.loop-done.work.links.ok.0) in
    record { works = c.loop-done.invariant.joined.works; there = link_there c.loop-done.work.links.items c.loop-done.done c.index-link.result.now lt c.index-link.ensures }

pub returns-then-not-open-clause-made : goal.returns-then-not-open-clause-made
returns-then-not-open-clause-made c =
    let lt : c.loop-done.done < length c.loop-done.work.links.items = omega (arith, c.loop-done-test.true, c.len.ensures, c.loop-done.work.links.ok.0) in
    let there = link_there c.loop-done.work.links.items c.loop-done.done c.index-link.result.now lt c.index-link.ensures in
    λ u l m e.
    let f = c.loop-done.invariant.joined.every u (begin_fulfils u c.args.bank.now c.args.work.now c.requires.unlinked l m) e in
    c.if-not-open.ensures.joins u f (joined_at u c.args.bank.now c.loop-done.work.links.items c.index-link.result.now f.joined there)

pub loop-done-preserved : goal.loop-done-preserved
loop-done-preserved c =
    let lt : c.loop-done.done < length c.loop-done.work.links.items = omega (arith, c.loop-done-test.true, c.len.ensures, c.loop-done.work.links.ok.0) in
    let there = link_there c.loop-done.work.links.items c.loop-done.done c.index-link.result.now lt c.index-link.ensures in
    let g = c.open.ensures.goes in
    let j = c.if-not-open.ensures.joins in
    let grown = longer_links c.loop-done.work c.open.new.work g in
    let within : c.loop-done.done + 1 ≤ length c.open.new.work.links.items = omega (arith, lt, grown) in
    record {
      joined = joined_on c.args.bank.now c.args.work.now c.loop-done.work c.open.new.work (spot_tree c.args.bank.now c.args.s) (spot_tree c.args.bank.now c.args.t) c.index-link.result.now g there c.loop-done.invariant.joined j;
      goes = goes_on c.args.work.now c.loop-done.work c.open.new.work c.loop-done.invariant.goes g;
      stays = linked_on c.args.bank.now c.args.work.now c.loop-done.work c.open.new.work c.args.s c.args.t c.index-link.result.now there c.loop-done.invariant.stays c.if-not-open.ensures.stays;
      settled = done_next (IsSettled c.args.bank.now c.loop-done.work) (IsSettled c.args.bank.now c.open.new.work) c.loop-done.work.links.items c.open.new.work.links.items g.links.0 c.loop-done.done c.index-link.result.now
          c.loop-done.invariant.settled lt c.index-link.ensures g.links.1 (λ k s. settled_on c.args.bank.now c.loop-done.work c.open.new.work k g s) (λ n u m l. j.alike n u m l);
      within = within;
    }

pub returns-clause-made : goal.returns-clause-made
returns-clause-made c =
    let le : length c.loop-done.work.links.items ≤ c.loop-done.done = omega (arith, c.loop-done-test.false, c.len.ensures, c.loop-done.work.links.ok.0) in
    are_made c.args.bank.now c.args.work.now c.loop-done.work (spot_tree c.args.bank.now c.args.s) (spot_tree c.args.bank.now c.args.t) c.loop-done.done c.requires.unlinked c.loop-done.invariant.joined c.loop-done.invariant.settled le
