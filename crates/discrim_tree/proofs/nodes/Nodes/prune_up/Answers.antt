use Rattle.discrim_tree.proofs.Trees.{alike_on}
use Rattle.discrim_tree.proofs.nodes.Nodes.prune_up.Goals as goal

pub loop-above-preserved : goal.loop-above-preserved
loop-above-preserved c =
    let so = c.loop-above.invariant in
    record {
      alike = alike_on c.args.self.now.items c.loop-above.self.items c.prune.new.self.items so.alike c.prune.ensures.alike;
      used = λ tree used. c.in-Some.ensures.pruned (so.alike.tree tree) (so.used tree used);
    }
