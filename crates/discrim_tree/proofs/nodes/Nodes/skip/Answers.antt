use Rattle.std.proofs.Common.{◌≡◌, [], length, arith}
use Rattle.std.proofs.lemmas.List.{nil_from_length}
use Rattle.discrim_tree.proofs.Returning.{none_behind, beyond_next, reached_next}
use Rattle.discrim_tree.proofs.WalkSteps.{stays, goes_far, skips_first, skips_next, skips_all}
use Rattle.discrim_tree.proofs.nodes.Nodes.skip.Goals as goal

pub loop-step-init : goal.loop-step-init
loop-step-init c = record {
  on = stays c.args.walk.now.items;
  longer = omega arith;
  beyond = λ to h. absurd (none_behind c.args.walk.now.items to h);
  waits = λ to h. h;
  skips = skips_first c.args.self.now.items c.args.waiting.now.items (length c.args.walk.now.items) c.args.walk.now.items;
}

pub loop-step-preserved : goal.loop-step-preserved
loop-step-preserved c =
    let so = c.loop-step.invariant in
    let old = c.args.walk.now.items in
    let now = c.loop-step.walk.items in
    let new = c.skip_one.new.walk.items in
    let step = c.in_ok-skip_one-in-Some.ensures in
    let nodes = c.args.self.now.items in
    let first = c.args.waiting.now.items in
    let popped = c.in-Some.ensures.items in
    record {
      on = goes_far old now new so.on step.goes_on;
      longer = omega (arith, so.longer, step.longer);
      beyond = reached_next nodes first c.loop-step.waiting.items c.pop.new.self.items c.in-Some.next old now new popped step.goes_on so.waits so.beyond step.past;
      waits = beyond_next nodes first c.loop-step.waiting.items c.pop.new.self.items c.skip_one.new.waiting.items c.in-Some.next popped so.waits step.only;
      skips = skips_next c.args.self.now.items c.args.waiting.now.items c.loop-step.waiting.items c.pop.new.self.items c.skip_one.new.waiting.items c.in-Some.next (length old) now new so.longer so.skips c.in-Some.ensures.items step.goes_on step.others step.skips;
    }

pub returns-in-None-clause-skips : goal.returns-in-None-clause-skips
returns-in-None-clause-skips c =
    let ended : c.loop-step.waiting.items ≡ [] = nil_from_length c.loop-step.waiting.items (omega (arith, c.in-None.ensures.cases.0, c.loop-step.waiting.ok.0)) in
    skips_all c.args.self.now.items c.args.waiting.now.items c.loop-step.waiting.items (length c.args.walk.now.items) c.loop-step.walk.items ended c.loop-step.invariant.skips
