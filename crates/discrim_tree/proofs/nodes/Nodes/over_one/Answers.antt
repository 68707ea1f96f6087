use Rattle.std.proofs.Common.{◌∙◌, ap, sym, subst, List, ℕ}
use Rattle.std.specs.Option.{option_copied}
use Rattle.discrim_tree.specs.Marking.{EntersOver}
use Rattle.discrim_tree.specs.Marks.{AreAmong}
use Rattle.discrim_tree.proofs.Marked.{over_nothing, over_there}
use Rattle.discrim_tree.proofs.NodeSteps.{on_ok}
use Rattle.discrim_tree.proofs.nodes.Nodes.over_one.Goals as goal

pub returns-in-None-clause-yields : goal.returns-in-None-clause-yields
returns-in-None-clause-yields c = λ rise.
    over_nothing c.args.self.now.items c.args.marks.now c.args.next c.args.numbers.now.items c.args.waiting.now.items (sym c.get.ensures ∙ ap option_copied c.in-None.is)

pub returns-in_ok-add_met-in-Some-clause-yields : goal.returns-in_ok-add_met-in-Some-clause-yields
returns-in_ok-add_met-in-Some-clause-yields c =
    let node = c.in-Some.node.now in
    let numbers = c.add_met.new.numbers.items in
    on_ok c.enter_over.result
    (λ enters rise.
    over_there c.args.self.now.items c.args.marks.now c.args.next node numbers c.enter_over.new.waiting.items (sym c.get.ensures ∙ ap option_copied c.in-Some.is)
    (λ met. subst (λ (ns : List ℕ). AreAmong ns numbers) c.numbers.ensures (c.in_ok-add_met-in-Some.ensures.added met))
    (subst (λ bs. EntersOver bs c.args.marks.now c.args.next.met c.enter_over.new.waiting.items) (c.as_slice.ensures ∙ c.branches-branches.ensures.all) (enters rise)))
    c.enter_over.ensures.enters
