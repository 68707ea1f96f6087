use Rattle.std.proofs.Common.{◌<◌, List, length, get_or, arith, subst, sym}
use Rattle.std.proofs.lemmas.Option.{slice_get-get_or}
use Rattle.discrim_tree.specs.Walks.{StartOnly}
use Rattle.discrim_tree.specs.declared.skipping.Skipping.{Skipping}
use Rattle.discrim_tree.proofs.Returning.{start_none, start_next}
use Rattle.discrim_tree.proofs.WalkSteps.{starts_nowhere, starts_next}
use Rattle.discrim_tree.proofs.walk.starts.Goals as goal

pub loop-i-init : goal.loop-i-init
loop-i-init c = record {
  from = omega arith;
  all = starts_nowhere c.args.low c.args.walk.now c.clear.new.self.items;
  only = subst (λ (w : List Skipping). StartOnly c.args.low c.args.walk.now w) (sym c.clear.ensures.items) (start_none c.args.low c.args.walk.now);
}

pub loop-i-preserved : goal.loop-i-preserved
loop-i-preserved c =
    let walk = c.args.walk.now in
    let so = c.loop-i.invariant in
    let within : c.loop-i.i < length c.args.walk.now = omega (arith, c.loop-i-test.true, c.requires) in
    let at = get_or walk c.loop-i.i 0 in
    let here = slice_get-get_or walk c.loop-i.i 0 within in
    record {
      from = omega (arith, so.from);
      all = starts_next c.args.low c.loop-i.i walk at c.loop-i.waiting.items c.push.new.self.items so.all here c.in_ok-push.ensures.items;
      only = start_next c.args.low c.loop-i.i walk at c.loop-i.waiting.items c.push.new.self.items so.from here so.only c.in_ok-push.ensures.items;
    }
