use Rattle.std.proofs.Common.{◌∙◌, ap, sym, subst, List, ℕ}
use Rattle.std.specs.Option.{option_copied}
use Rattle.std.specs.List.{Contains}
use Rattle.std.proofs.lemmas.List.Elements.{Contains-append_right}
use Rattle.discrim_tree.proofs.Marked.{within_nothing, within_there}
use Rattle.discrim_tree.proofs.NodeSteps.{on_ok}
use Rattle.discrim_tree.proofs.nodes.Nodes.within_one.Goals as goal

pub returns-in-None-clause-yields : goal.returns-in-None-clause-yields
returns-in-None-clause-yields c =
    within_nothing c.args.self.now.items c.args.marks.now c.args.at c.args.numbers.now.items c.args.waiting.now.items (sym c.get.ensures ∙ ap option_copied c.in-None.is)

pub returns-in_ok-extend_from_slice-in-Some-clause-yields : goal.returns-in_ok-extend_from_slice-in-Some-clause-yields
returns-in_ok-extend_from_slice-in-Some-clause-yields c =
    let node = c.in-Some.node.now in
    let old = c.args.numbers.now.items in
    let numbers = c.extend_from_slice.new.self.items in
    on_ok c.enter_within.result
    (λ enters.
    within_there c.args.self.now.items c.args.marks.now c.args.at node numbers c.enter_within.new.waiting.items (sym c.get.ensures ∙ ap option_copied c.in-Some.is)
    (λ n h. subst (λ (ns : List ℕ). Contains ns n) (sym c.in_ok-extend_from_slice-in-Some.ensures.items) (Contains-append_right old c.numbers.result.now n (subst (λ (ns : List ℕ). Contains ns n) (sym c.numbers.ensures) h)))
    enters)
    c.enter_within.ensures.enters
