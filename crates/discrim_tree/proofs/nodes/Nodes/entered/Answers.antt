use Rattle.std.proofs.Common.{◌∙◌, sym}
use Rattle.discrim_tree.proofs.Trees.{entered_alike, entered_err, entered_used, used_on}
use Rattle.discrim_tree.proofs.nodes.Nodes.entered.Goals as goal

pub returns-in-Some-clause-used : goal.returns-in-Some-clause-used
returns-in-Some-clause-used c = used_on c.args.self.now.items c.args.at c.args.edge c.in-Some.k (sym c.child.ensures ∙ c.in-Some.is)

pub returns-clause-alike : goal.returns-clause-alike
returns-clause-alike c = entered_alike c.args.at c.args.edge c.args.self.now.items c.grown.new.self.items c.grown.result c.grown.ensures.more c.grown.ensures.link c.grown.ensures.err

pub returns-clause-used : goal.returns-clause-used
returns-clause-used c = entered_used c.args.at c.args.edge c.args.self.now.items c.grown.new.self.items c.grown.result c.grown.ensures.more

pub returns-clause-err : goal.returns-clause-err
returns-clause-err c = entered_err c.args.at c.args.edge c.args.self.now.items c.grown.new.self.items c.grown.result c.grown.ensures.err
