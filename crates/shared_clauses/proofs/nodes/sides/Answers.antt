-- Two arguments under equality are sides.
use Rattle.term_bank.specs.Bank.{tree_at}
use Rattle.shared_clauses.proofs.NodeSteps.{few_sides, node_sides}
use Rattle.shared_clauses.proofs.nodes.sides.Goals as goal

pub returns-then-arguments-ne2 : goal.returns-then-arguments-ne2
returns-then-arguments-ne2 c = few_sides c.args.bank.now c.in-App.relation.0 c.in-App.arguments.now (tree_at c.args.bank.now c.args.id.0) c.if-arguments-ne2.true c.in-App.ensures.tree

pub returns-else-relation : goal.returns-else-relation
returns-else-relation c = node_sides c.args.bank.now c.args.id.0 c.in-App.relation.0 c.in-App.arguments.now (record { 0 = 0 }) c.if-arguments-ne2.false c.if-relation.false c.requires c.in-App.ensures.tree c.in-App.ensures.below
