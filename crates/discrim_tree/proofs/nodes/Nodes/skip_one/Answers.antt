use Rattle.std.proofs.Common.{◌≤◌, List, ℕ, sym, subst, length, arith}
use Rattle.discrim_tree.specs.Walks.{IsFrom}
use Rattle.discrim_tree.proofs.Returning.{past_here, none_past, skipped_none}
use Rattle.discrim_tree.proofs.WalkSteps.{pushed_from, skipped_here, skipped_on}
use Rattle.discrim_tree.proofs.nodes.Nodes.skip_one.Goals as goal

pub returns-then-next-eq0-clause-skips : goal.returns-then-next-eq0-clause-skips
returns-then-next-eq0-clause-skips c =
    let old = c.args.walk.now.items in
    let far : length c.args.walk.now.items ≤ length c.args.walk.now.items = omega arith in
    skipped_here c.args.self.now.items c.args.next (length old) c.push.new.self.items c.args.waiting.now.items c.if-next-eq0.true
    (subst (λ (xs : List ℕ). IsFrom (length old) xs c.args.next.node) (sym c.in_ok-push.ensures.items) (pushed_from old c.args.next.node (length old) far))

pub returns-clause-skips : goal.returns-clause-skips
returns-clause-skips c =
    skipped_on c.args.self.now.items c.args.next (length c.args.walk.now.items) c.args.walk.now.items c.enter_each.new.waiting.items c.if-next-eq0.false c.in_ok-enter_each.ensures.enters

pub returns-then-next-eq0-clause-past : goal.returns-then-next-eq0-clause-past
returns-then-next-eq0-clause-past c = λ to h. past_here c.args.self.now.items c.args.next c.args.walk.now.items c.push.new.self.items to c.if-next-eq0.true c.in_ok-push.ensures.items h

pub returns-then-next-eq0-clause-only : goal.returns-then-next-eq0-clause-only
returns-then-next-eq0-clause-only c = skipped_none c.args.self.now.items c.args.next.node c.args.next.count c.args.waiting.now.items

pub returns-clause-past : goal.returns-clause-past
returns-clause-past c = none_past c.args.self.now.items c.args.next c.args.walk.now.items
