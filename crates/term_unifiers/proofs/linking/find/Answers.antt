-- Each step goes to a lesser node.
use Rattle.std.proofs.Common.{◌<◌, ◌∙◌, refl, sym, length, set, arith}
use Rattle.term_unifiers.proofs.Links.{shortened_refl, shortened_on, skip, skipped, next_inside, least_next}
use Rattle.term_unifiers.proofs.linking.find.Goals as goal

pub up-init : goal.up-init
up-init c = record { shortened = shortened_refl c.args.links.now.items c.requires.down; within = omega arith; same = λ label fits. refl }

pub index-next-requires : goal.index-next-requires
index-next-requires c = omega (arith, c.up.invariant.within, c.up.invariant.shortened.as_many, c.requires.start, c.up.links.ok.0)

pub index-after-requires : goal.index-after-requires
index-after-requires c =
    let inside : c.up.n < length c.up.links.items = omega (arith, c.up.invariant.within, c.up.invariant.shortened.as_many, c.requires.start) in
    let r = next_inside c.up.links.items c.up.n c.index-next.result.now c.up.invariant.shortened.down inside c.index-next.ensures in
    omega (arith, r.1, inside, c.up.links.ok.0)

pub up-preserved : goal.up-preserved
up-preserved c =
    let inside : c.up.n < length c.up.links.items = omega (arith, c.up.invariant.within, c.up.invariant.shortened.as_many, c.requires.start) in
    let r = skipped c.up.links.items c.up.n c.index-next.result.now c.index-after.result.now c.up.invariant.shortened.down inside c.index-next.ensures c.index-after.ensures in
    record {
      shortened = shortened_on c.args.links.now.items c.up.links.items (set c.up.links.items c.up.n c.index-after.result.now) c.up.invariant.shortened
          (skip c.up.links.items c.up.n c.index-next.result.now c.index-after.result.now c.up.invariant.shortened.down inside r.0 r.2);
      within = omega (arith, r.1, r.3, c.up.invariant.within);
      same = least_next c.up.links.items c.args.start c.up.n c.index-next.result.now c.index-after.result.now c.up.invariant.shortened.down inside r.0 r.2 c.up.invariant.same;
    }

pub up-smaller : goal.up-smaller
up-smaller c =
    let inside : c.up.n < length c.up.links.items = omega (arith, c.up.invariant.within, c.up.invariant.shortened.as_many, c.requires.start) in
    let r = skipped c.up.links.items c.up.n c.index-next.result.now c.index-after.result.now c.up.invariant.shortened.down inside c.index-next.ensures c.index-after.ensures in
    omega (arith, r.1, r.3, c.if-next-n.false)

pub returns-then-next-n-clause-least : goal.returns-then-next-n-clause-least
returns-then-next-n-clause-least c =
    let inside : c.up.n < length c.up.links.items = omega (arith, c.up.invariant.within, c.up.invariant.shortened.as_many, c.requires.start) in
    let r = next_inside c.up.links.items c.up.n c.index-next.result.now c.up.invariant.shortened.down inside c.index-next.ensures in
    record { within = c.up.invariant.within; least = sym r.0 ∙ c.if-next-n.true; same = c.up.invariant.same }
