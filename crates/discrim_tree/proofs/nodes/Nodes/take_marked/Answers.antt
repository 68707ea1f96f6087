use Rattle.std.proofs.Common.{map}
use Rattle.discrim_tree.specs.Marks.{mark_step}
use Rattle.discrim_tree.proofs.Trees.{nothing_lost}
use Rattle.discrim_tree.proofs.nodes.Nodes.take_marked.Goals as goal

pub returns-in-None-clause-gone : goal.returns-in-None-clause-gone
returns-in-None-clause-gone c = c.in-None.ensures c.args.self.now.items c.args.number (nothing_lost c.args.self.now.items)

pub returns-in-Some-clause-gone : goal.returns-in-Some-clause-gone
returns-in-Some-clause-gone c = c.take_at.ensures.gone (map mark_step c.args.marks.now) c.in-Some.ensures
