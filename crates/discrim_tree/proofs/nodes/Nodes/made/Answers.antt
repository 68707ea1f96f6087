use Rattle.std.proofs.Common.{take}
use Rattle.discrim_tree.proofs.Trees.{alike_on, leads_next, leads_on}
use Rattle.discrim_tree.proofs.nodes.Nodes.made.Goals as goal

pub returns-in-Err-clause-err : goal.returns-in-Err-clause-err
returns-in-Err-clause-err c = λ tree used.
    let so = c.loop-i.invariant in
    c.prune_up.ensures.used (c.entered.ensures.alike.tree (so.alike.tree tree)) (c.in-Err.ensures.err (so.used used))

pub loop-i-preserved : goal.loop-i-preserved
loop-i-preserved c =
    let so = c.loop-i.invariant in
    let old = c.loop-i.self.items in
    let new = c.entered.new.self.items in
    let path = c.args.path.now in
    record {
      alike = alike_on c.args.self.now.items old new so.alike c.entered.ensures.alike;
      leads = leads_next new 0 path c.loop-i.i _ c.loop-i.at c.in-Ok.k c.loop-i-test.true (leads_on old new c.entered.ensures.grows.0 0 (take c.loop-i.i path) c.loop-i.at so.leads) c.in-Ok.ensures.branch;
      used = λ used. c.in-Ok.ensures.used (so.used used);
    }
