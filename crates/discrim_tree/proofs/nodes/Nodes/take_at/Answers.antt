use Rattle.discrim_tree.proofs.Trees.{paths_grown, paths_on}
use Rattle.discrim_tree.proofs.nodes.Nodes.take_at.Goals as goal

pub returns-clause-fewer : goal.returns-clause-fewer
returns-clause-fewer c =
    paths_on c.prune_up.new.self.items c.forget.new.self.items c.args.self.now.items c.prune_up.ensures.alike.came
    (paths_grown c.forget.new.self.items c.args.self.now.items c.forget.ensures.fewer)
