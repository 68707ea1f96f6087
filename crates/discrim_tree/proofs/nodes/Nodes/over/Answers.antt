use Rattle.std.proofs.Common.{◌≡◌, [], arith}
use Rattle.std.proofs.lemmas.List.{nil_from_length}
use Rattle.discrim_tree.specs.Marking.{IsOver}
use Rattle.discrim_tree.proofs.Marked.{comes_all, comes_first, comes_next}
use Rattle.discrim_tree.proofs.nodes.Nodes.over.Goals as goal

pub loop-step-init : goal.loop-step-init
loop-step-init c = λ rise. comes_first (IsOver c.args.self.now.items c.args.marks.now) c.args.waiting.now.items c.args.numbers.now.items

pub loop-step-preserved : goal.loop-step-preserved
loop-step-preserved c =
    let step = c.in_ok-over_one-in-Some.ensures in
    λ rise.
    comes_next (IsOver c.args.self.now.items c.args.marks.now) c.args.waiting.now.items c.loop-step.waiting.items c.pop.new.self.items c.over_one.new.waiting.items c.in-Some.next c.loop-step.numbers.items c.over_one.new.numbers.items
    c.in-Some.ensures.items step.kept step.others (c.loop-step.invariant rise) (step.yields rise)

pub returns-in-None : goal.returns-in-None
returns-in-None c =
    let ended : c.loop-step.waiting.items ≡ [] = nil_from_length c.loop-step.waiting.items (omega (arith, c.in-None.ensures.cases.0, c.loop-step.waiting.ok.0)) in
    λ told rise. comes_all (IsOver c.args.self.now.items c.args.marks.now) c.args.waiting.now.items c.loop-step.waiting.items c.loop-step.numbers.items ended (c.loop-step.invariant rise)
