use Rattle.std.proofs.Common.{◌≡◌, [], arith}
use Rattle.std.proofs.lemmas.List.{nil_from_length}
use Rattle.discrim_tree.specs.Marking.{IsWithin}
use Rattle.discrim_tree.proofs.Marked.{comes_all, comes_first, comes_next}
use Rattle.discrim_tree.proofs.nodes.Nodes.within.Goals as goal

pub loop-step-init : goal.loop-step-init
loop-step-init c = comes_first (IsWithin c.args.self.now.items c.args.marks.now) c.args.waiting.now.items c.args.numbers.now.items

pub loop-step-preserved : goal.loop-step-preserved
loop-step-preserved c =
    let step = c.in_ok-within_one-in-Some.ensures in
    comes_next (IsWithin c.args.self.now.items c.args.marks.now) c.args.waiting.now.items c.loop-step.waiting.items c.pop.new.self.items c.within_one.new.waiting.items c.in-Some.at c.loop-step.numbers.items c.within_one.new.numbers.items
    c.in-Some.ensures.items step.kept step.others c.loop-step.invariant step.yields

pub returns-in-None : goal.returns-in-None
returns-in-None c = λ told.
    let ended : c.loop-step.waiting.items ≡ [] = nil_from_length c.loop-step.waiting.items (omega (arith, c.in-None.ensures.cases.0, c.loop-step.waiting.ok.0)) in
    comes_all (IsWithin c.args.self.now.items c.args.marks.now) c.args.waiting.now.items c.loop-step.waiting.items c.loop-step.numbers.items ended c.loop-step.invariant
