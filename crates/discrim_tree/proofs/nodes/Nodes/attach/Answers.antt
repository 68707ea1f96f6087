use Rattle.std.proofs.Common.{◌∙◌, ap, refl, sym}
use Rattle.std.specs.Option.{option_copied_mut, is_some}
use Rattle.slab.specs.Slab.{with_value}
use Rattle.slab.proofs.SlabLemmas.{Updates-with_value}
use Rattle.discrim_tree.specs.declared.nodes.Node.{Node}
use Rattle.discrim_tree.proofs.NodeSteps.{branched, child_by, on_err, on_ok, untouched}
use Rattle.discrim_tree.proofs.nodes.Nodes.attach.Goals as goal

pub put_branch-requires : goal.put_branch-requires
put_branch-requires c =
    let is = sym c.get_mut.ensures.value ∙ ap option_copied_mut c.in-Some.is in
    sym (child_by c.args.self.now.items c.args.at c.args.edge c.in-Some.node.now is) ∙ c.requires

pub returns-in-Some-clause-others : goal.returns-in-Some-clause-others
returns-in-Some-clause-others c =
    let nodes = c.args.self.now.items in
    let node = c.in-Some.node.now in
    let is = sym c.get_mut.ensures.value ∙ ap option_copied_mut c.in-Some.is in
    on_ok c.put_branch.result
    (λ others. branched nodes _ c.args.at c.args.edge node (record { contents = c.put_branch.new.self; link = node.link }) is (Updates-with_value nodes c.args.at _ (ap is_some is)) c.put_branch.ensures.numbers refl others)
    c.put_branch.ensures.others

pub returns-in-Some-clause-branch : goal.returns-in-Some-clause-branch
returns-in-Some-clause-branch c =
    let nodes = c.args.self.now.items in
    let node = c.in-Some.node.now in
    let is = sym c.get_mut.ensures.value ∙ ap option_copied_mut c.in-Some.is in
    let next : Node = record { contents = c.put_branch.new.self; link = node.link } in
    on_ok c.put_branch.result
    (λ there. child_by (with_value nodes c.args.at next) c.args.at c.args.edge next (Updates-with_value nodes c.args.at next (ap is_some is)).changed ∙ there)
    c.put_branch.ensures.there

pub returns-in-Some-clause-err : goal.returns-in-Some-clause-err
returns-in-Some-clause-err c =
    let nodes = c.args.self.now.items in
    let node = c.in-Some.node.now in
    let is = sym c.get_mut.ensures.value ∙ ap option_copied_mut c.in-Some.is in
    on_err c.put_branch.result
    (λ same. untouched nodes _ c.args.at node (record { contents = c.put_branch.new.self; link = node.link }) is (Updates-with_value nodes c.args.at _ (ap is_some is)) c.put_branch.ensures.numbers refl same refl)
    c.put_branch.ensures.err
