use Rattle.std.proofs.Common.{refl, sym, ap, ◌∙◌}
use Rattle.std.specs.Option.{option_copied_mut, is_some}
use Rattle.slab.proofs.SlabLemmas.{Updates-with_value}
use Rattle.discrim_tree.proofs.NodeSteps.{branched}
use Rattle.discrim_tree.proofs.nodes.Nodes.cut.Goals as goal

pub returns-in-Some-clause-others : goal.returns-in-Some-clause-others
returns-in-Some-clause-others c = λ there.
    let nodes = c.args.self.now.items in
    let node = c.in-Some.node.now in
    let is = sym c.get_mut.ensures.value ∙ ap option_copied_mut c.in-Some.is in
    branched nodes _ c.args.at c.args.edge node (record { contents = c.take_branch.new.self; link = node.link }) is (Updates-with_value nodes c.args.at _ (ap is_some is)) c.take_branch.ensures.numbers refl c.take_branch.ensures.others
