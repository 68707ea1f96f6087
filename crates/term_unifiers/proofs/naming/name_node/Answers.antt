-- The variable stands in one of the two lists, and the others stay.
use Rattle.term_unifiers.proofs.Looking.{pushed_here, pushed_others, inserted_here, inserted_others}
use Rattle.term_unifiers.proofs.naming.name_node.Goals as goal

pub returns-in_ok-push-clause-here : goal.returns-in_ok-push-clause-here
returns-in_ok-push-clause-here c =
    pushed_here c.args.x c.args.n c.args.variables.now.few.items c.push.new.self.items c.args.variables.now.others.entries c.requires c.in_ok-push.ensures.items

pub returns-in_ok-push-clause-others : goal.returns-in_ok-push-clause-others
returns-in_ok-push-clause-others c = λ q h.
    pushed_others c.args.x c.args.n q c.args.variables.now.few.items c.push.new.self.items c.args.variables.now.others.entries h c.in_ok-push.ensures.items

pub returns-in_ok-insert-clause-here : goal.returns-in_ok-insert-clause-here
returns-in_ok-insert-clause-here c =
    inserted_here c.args.x c.args.n c.args.variables.now.few.items c.args.variables.now.others.entries c.insert.new.self.entries c.requires c.in_ok-insert.ensures.updates.1

pub returns-in_ok-insert-clause-others : goal.returns-in_ok-insert-clause-others
returns-in_ok-insert-clause-others c = λ q h.
    inserted_others q c.args.variables.now.few.items c.args.variables.now.others.entries c.insert.new.self.entries (c.in_ok-insert.ensures.updates.2 q h)
