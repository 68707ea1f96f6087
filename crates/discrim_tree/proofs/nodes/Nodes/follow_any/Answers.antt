use Rattle.discrim_tree.proofs.Returning.{came_by_any, none_by_any}
use Rattle.discrim_tree.proofs.nodes.Nodes.follow_any.Goals as goal

pub returns-then-not-below-clause-came : goal.returns-then-not-below-clause-came
returns-then-not-below-clause-came c = none_by_any c.args.self.now.items c.args.below c.args.low c.args.high c.args.walk.now.items

pub returns-clause-came : goal.returns-clause-came
returns-clause-came c = came_by_any c.args.self.now.items c.args.below c.args.low c.args.high c.args.walk.now.items c.follow.new.walk.items c.if-not-below.false c.in_ok-follow.ensures.came
