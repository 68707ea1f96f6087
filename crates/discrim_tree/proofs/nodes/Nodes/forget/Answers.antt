use Rattle.std.proofs.Common.{◌∙◌, ap, refl, subst, sym}
use Rattle.std.specs.Option.{option_copied_mut, is_some}
use Rattle.slab.proofs.SlabLemmas.{Updates-with_value}
use Rattle.discrim_tree.specs.Nodes.{IsIn}
use Rattle.discrim_tree.specs.declared.nodes.Node.{Node}
use Rattle.discrim_tree.proofs.NodeSteps.{after_held, held_after, held_by, held_there, is_in_filter, is_in_more, is_out, renumbered}
use Rattle.discrim_tree.proofs.Trees.{renumbered_fewer, renumbered_others, renumbered_tree, used_forgotten}
use Rattle.discrim_tree.proofs.nodes.Nodes.forget.Goals as goal

pub returns-in-Some-clause-others : goal.returns-in-Some-clause-others
returns-in-Some-clause-others c =
    let nodes = c.args.self.now.items in
    let at = c.args.at in
    let number = c.args.number in
    let node = c.in-Some.node.now in
    let next : Node = record { contents = c.take_number.new.self; link = node.link } in
    let is = sym c.get_mut.ensures.value ∙ ap option_copied_mut c.in-Some.is in
    let up = Updates-with_value nodes at next (ap is_some is) in
    renumbered_others at nodes _ (renumbered nodes _ at node next is up c.take_number.ensures.branches refl) number
    (λ n ne h. held_after nodes _ at n next up (subst (IsIn n) (sym c.take_number.ensures.numbers) (is_in_filter number n node.contents.numbers ne (held_by nodes at n node is h))))

pub returns-in-Some-clause-fewer : goal.returns-in-Some-clause-fewer
returns-in-Some-clause-fewer c =
    let nodes = c.args.self.now.items in
    let at = c.args.at in
    let node = c.in-Some.node.now in
    let next : Node = record { contents = c.take_number.new.self; link = node.link } in
    let is = sym c.get_mut.ensures.value ∙ ap option_copied_mut c.in-Some.is in
    let up = Updates-with_value nodes at next (ap is_some is) in
    renumbered_fewer at nodes _ (renumbered nodes _ at node next is up c.take_number.ensures.branches refl)
    (λ n h. held_there nodes at n node is (is_in_more c.args.number n node.contents.numbers (subst (IsIn n) c.take_number.ensures.numbers (after_held nodes _ at n next up h))))

pub returns-in-Some-clause-gone : goal.returns-in-Some-clause-gone
returns-in-Some-clause-gone c = λ h.
    let nodes = c.args.self.now.items in
    let at = c.args.at in
    let node = c.in-Some.node.now in
    let next : Node = record { contents = c.take_number.new.self; link = node.link } in
    let is = sym c.get_mut.ensures.value ∙ ap option_copied_mut c.in-Some.is in
    let up = Updates-with_value nodes at next (ap is_some is) in
    is_out c.args.number node.contents.numbers (subst (IsIn c.args.number) c.take_number.ensures.numbers (after_held nodes _ at c.args.number next up h))

pub returns-in-Some-clause-tree : goal.returns-in-Some-clause-tree
returns-in-Some-clause-tree c =
    let nodes = c.args.self.now.items in
    let at = c.args.at in
    let node = c.in-Some.node.now in
    let next : Node = record { contents = c.take_number.new.self; link = node.link } in
    let is = sym c.get_mut.ensures.value ∙ ap option_copied_mut c.in-Some.is in
    renumbered_tree at nodes _ (renumbered nodes _ at node next is (Updates-with_value nodes at next (ap is_some is)) c.take_number.ensures.branches refl)

pub returns-in-Some-clause-used : goal.returns-in-Some-clause-used
returns-in-Some-clause-used c =
    let nodes = c.args.self.now.items in
    let at = c.args.at in
    let node = c.in-Some.node.now in
    let next : Node = record { contents = c.take_number.new.self; link = node.link } in
    let is = sym c.get_mut.ensures.value ∙ ap option_copied_mut c.in-Some.is in
    used_forgotten at nodes _ (renumbered nodes _ at node next is (Updates-with_value nodes at next (ap is_some is)) c.take_number.ensures.branches refl)
