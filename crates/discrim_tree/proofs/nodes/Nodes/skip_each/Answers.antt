use Rattle.std.proofs.Common.{List, ℕ, subst}
use Rattle.discrim_tree.specs.Walks.{StartsAt, StartOnly}
use Rattle.discrim_tree.proofs.Returning.{skipped_back}
use Rattle.discrim_tree.proofs.WalkSteps.{skipped_each}
use Rattle.discrim_tree.proofs.nodes.Nodes.skip_each.Goals as goal

pub returns-clause-skips : goal.returns-clause-skips
returns-clause-skips c =
    skipped_each c.args.self.now.items c.args.low c.args.high c.args.walk.now.items c.skip.new.walk.items c.starts.new.waiting.items
    (subst (λ (w : List ℕ). StartsAt c.args.low c.args.high w c.starts.new.waiting.items) c.deref.ensures.value c.in_ok-starts.ensures.all) c.in_ok-skip.ensures.skips

pub returns-clause-behind : goal.returns-clause-behind
returns-clause-behind c =
    skipped_back c.args.self.now.items c.args.low c.args.walk.now.items c.skip.new.walk.items c.starts.new.waiting.items
    (subst (λ (w : List ℕ). StartOnly c.args.low w c.starts.new.waiting.items) c.deref.ensures.value c.in_ok-starts.ensures.only) c.in_ok-skip.ensures.beyond
