-- The arguments are below the term.
use Rattle.shared_clauses.proofs.NodeSteps.{has_arguments}
use Rattle.shared_clauses.proofs.nodes.arguments_of.Goals as goal

pub returns-then-f-g : goal.returns-then-f-g
returns-then-f-g c = has_arguments c.args.bank.now c.args.id.0 c.args.f c.in-App.g.0 c.in-App.arguments.now c.if-f-g.true c.requires c.in-App.ensures.tree c.in-App.ensures.below
