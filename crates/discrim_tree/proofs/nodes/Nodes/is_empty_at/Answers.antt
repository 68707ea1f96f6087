use Rattle.std.proofs.Common.{◌∙◌, ap, sym}
use Rattle.std.specs.Option.{option_copied}
use Rattle.discrim_tree.proofs.NodeSteps.{full}
use Rattle.discrim_tree.proofs.nodes.Nodes.is_empty_at.Goals as goal

pub returns-in-Some-clause-no : goal.returns-in-Some-clause-no
returns-in-Some-clause-no c = λ no there.
    full c.args.self.now.items c.args.at c.in-Some.node.now (sym c.get.ensures ∙ ap option_copied c.in-Some.is) (c.is_empty.ensures.no no)
