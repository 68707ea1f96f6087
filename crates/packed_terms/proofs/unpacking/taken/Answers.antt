use Rattle.std.proofs.Common.{◌∙◌, ap, drop, take}
use Rattle.fol_core.specs.TermView.{tree_of}
use Rattle.packed_terms.specs.Building.{from_top}
use Rattle.packed_terms.proofs.Building.{from_top_more, left_next, taken_next}
use Rattle.packed_terms.proofs.unpacking.taken.Goals as goal

pub loop-i-preserved : goal.loop-i-preserved
loop-i-preserved c =
    let all = from_top c.args.stack.now.items in
    let old = from_top c.loop-i.stack.items in
    let new = from_top c.pop.new.self.items in
    let term = tree_of c.in-Some.term in
    let top = ap from_top c.in-Some.ensures.items ∙ from_top_more c.pop.new.self.items c.in-Some.term in
    record {
      taken = taken_next c.args.count c.loop-i._i c.loop-i-test.true c.loop-i.terms c.push.new.self term old new (take c.args.count all) top c.in_ok-push-in-Some.ensures.ok c.loop-i.invariant.taken;
      left = left_next c.args.count c.loop-i._i c.loop-i-test.true term old new (drop c.args.count all) top c.loop-i.invariant.left;
    }
