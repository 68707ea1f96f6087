use Rattle.std.proofs.Common.{◌∙◌, ap, sym, refl, subst, inl, inr}
use Rattle.std.specs.Option.{option_copied_mut, is_some}
use Rattle.slab.proofs.SlabLemmas.{Updates-with_value}
use Rattle.discrim_tree.specs.Nodes.{IsIn}
use Rattle.discrim_tree.proofs.NodeSteps.{after_held, held_after, held_by, held_there, is_in_either, is_in_front, is_in_last, on_err, on_ok, renumbered, untouched}
use Rattle.discrim_tree.proofs.nodes.Nodes.note.Goals as goal

pub returns-in-Some-clause-err : goal.returns-in-Some-clause-err
returns-in-Some-clause-err c =
    let nodes = c.args.self.now.items in
    let at = c.args.at in
    let node = c.in-Some.node.now in
    let is = sym c.get_mut.ensures.value ∙ ap option_copied_mut c.in-Some.is in
    on_err c.put_number.result
    (λ same. untouched nodes _ at node (record { contents = c.put_number.new.self; link = node.link }) is (Updates-with_value nodes at _ (ap is_some is)) same refl c.put_number.ensures.branches refl)
    c.put_number.ensures.err

pub returns-in-Some-clause-others : goal.returns-in-Some-clause-others
returns-in-Some-clause-others c =
    let nodes = c.args.self.now.items in
    let at = c.args.at in
    let node = c.in-Some.node.now in
    let is = sym c.get_mut.ensures.value ∙ ap option_copied_mut c.in-Some.is in
    on_ok c.put_number.result
    (λ more. renumbered nodes _ at node (record { contents = c.put_number.new.self; link = node.link }) is (Updates-with_value nodes at _ (ap is_some is)) c.put_number.ensures.branches refl)
    c.put_number.ensures.numbers

pub returns-in-Some-clause-kept : goal.returns-in-Some-clause-kept
returns-in-Some-clause-kept c =
    let nodes = c.args.self.now.items in
    let at = c.args.at in
    let node = c.in-Some.node.now in
    let is = sym c.get_mut.ensures.value ∙ ap option_copied_mut c.in-Some.is in
    let up = Updates-with_value nodes at (record { contents = c.put_number.new.self; link = node.link }) (ap is_some is) in
    on_ok c.put_number.result
    (λ more n h. held_after nodes _ at n _ up (subst (IsIn n) (sym more) (is_in_front n c.args.number node.contents.numbers (held_by nodes at n node is h))))
    c.put_number.ensures.numbers

pub returns-in-Some-clause-noted : goal.returns-in-Some-clause-noted
returns-in-Some-clause-noted c =
    let nodes = c.args.self.now.items in
    let at = c.args.at in
    let node = c.in-Some.node.now in
    let is = sym c.get_mut.ensures.value ∙ ap option_copied_mut c.in-Some.is in
    let up = Updates-with_value nodes at (record { contents = c.put_number.new.self; link = node.link }) (ap is_some is) in
    on_ok c.put_number.result
    (λ more. held_after nodes _ at c.args.number _ up (subst (IsIn c.args.number) (sym more) (is_in_last c.args.number node.contents.numbers)))
    c.put_number.ensures.numbers

pub returns-in-Some-clause-only : goal.returns-in-Some-clause-only
returns-in-Some-clause-only c =
    let nodes = c.args.self.now.items in
    let at = c.args.at in
    let node = c.in-Some.node.now in
    let is = sym c.get_mut.ensures.value ∙ ap option_copied_mut c.in-Some.is in
    let up = Updates-with_value nodes at (record { contents = c.put_number.new.self; link = node.link }) (ap is_some is) in
    on_ok c.put_number.result
    (λ more n h. elim (is_in_either n c.args.number node.contents.numbers (subst (IsIn n) more (after_held nodes _ at n _ up h))) [
      | inl g ↦ inl (held_there nodes at n node is g)
      | inr g ↦ inr g
    ])
    c.put_number.ensures.numbers
