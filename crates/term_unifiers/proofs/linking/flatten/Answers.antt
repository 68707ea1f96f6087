-- A node more is linked to the least of its class.
use Rattle.std.proofs.Common.{◌<◌, length, set, arith}
use Rattle.term_unifiers.proofs.Links.{shortened_refl, shortened_on, skip, skipped, next_inside, flat_next}
use Rattle.term_unifiers.proofs.linking.flatten.Goals as goal

pub loop-n-init : goal.loop-n-init
loop-n-init c = record { shortened = shortened_refl c.args.links.now.items c.requires; flat = λ k h. let no_place : ⊥ = omega (arith, h) in elim no_place [ ] }

pub index-after-requires : goal.index-after-requires
index-after-requires c =
    let inside : c.loop-n.n < length c.loop-n.links.items = omega (arith, c.loop-n-test.true, c.len-n-end.ensures, c.loop-n.invariant.shortened.as_many, c.args.links.now.ok.0) in
    let r = next_inside c.loop-n.links.items c.loop-n.n c.index-next.result.now c.loop-n.invariant.shortened.down inside c.index-next.ensures in
    omega (arith, r.1, inside, c.loop-n.links.ok.0)

pub loop-n-preserved : goal.loop-n-preserved
loop-n-preserved c =
    let inside : c.loop-n.n < length c.loop-n.links.items = omega (arith, c.loop-n-test.true, c.len-n-end.ensures, c.loop-n.invariant.shortened.as_many, c.args.links.now.ok.0) in
    let r = skipped c.loop-n.links.items c.loop-n.n c.index-next.result.now c.index-after.result.now c.loop-n.invariant.shortened.down inside c.index-next.ensures c.index-after.ensures in
    record {
      shortened = shortened_on c.args.links.now.items c.loop-n.links.items (set c.loop-n.links.items c.loop-n.n c.index-after.result.now) c.loop-n.invariant.shortened
          (skip c.loop-n.links.items c.loop-n.n c.index-next.result.now c.index-after.result.now c.loop-n.invariant.shortened.down inside r.0 r.2);
      flat = flat_next c.loop-n.links.items c.loop-n.n c.index-next.result.now c.index-after.result.now c.loop-n.invariant.shortened.down inside r.0 r.2 c.loop-n.invariant.flat;
    }

pub returns-clause-flat : goal.returns-clause-flat
returns-clause-flat c = λ k h.
    let early : k < c.loop-n.n = omega (arith, h, c.loop-n-test.false, c.len-n-end.ensures, c.loop-n.invariant.shortened.as_many, c.args.links.now.ok.0) in
    c.loop-n.invariant.flat k early
