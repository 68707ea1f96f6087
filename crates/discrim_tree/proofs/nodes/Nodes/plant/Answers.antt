use Rattle.discrim_tree.proofs.Trees.{fresh_alike, not_there, same_alike}
use Rattle.discrim_tree.proofs.nodes.Nodes.plant.Goals as goal

pub returns-in_err-_root-clause-alike : goal.returns-in_err-_root-clause-alike
returns-in_err-_root-clause-alike c = same_alike c.args.self.now.items c.fresh.new.self.items c.in_err-_root.ensures.err

pub returns-in_ok-_root-clause-alike : goal.returns-in_ok-_root-clause-alike
returns-in_ok-_root-clause-alike c =
    let old = c.args.self.now.items in
    fresh_alike _ c.in_ok-_root._root old c.fresh.new.self.items c.in_ok-_root.ensures.fresh (not_there old 0 c.contains.result c.contains.ensures.1 c.if-not-contains.true)
