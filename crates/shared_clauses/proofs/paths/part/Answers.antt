-- The argument, if it is there.
use Rattle.shared_clauses.proofs.WaySteps.{no_part_past, no_part_zero, part_there}
use Rattle.shared_clauses.proofs.paths.part.Goals as goal

pub returns-then-number-eq0 : goal.returns-then-number-eq0
returns-then-number-eq0 c = no_part_zero c.args.bank.now c.args.id.0 c.in-App.field-0.0 c.args.number c.in-App.arguments.now c.in-App.ensures.tree c.requires c.in-App.ensures.below c.if-number-eq0.true

pub returns-then-number-arguments : goal.returns-then-number-arguments
returns-then-number-arguments c = no_part_past c.args.bank.now c.args.id.0 c.in-App.field-0.0 c.args.number c.in-App.arguments.now c.in-App.ensures.tree c.requires c.in-App.ensures.below c.if-number-arguments.true

pub returns-else-number-arguments : goal.returns-else-number-arguments
returns-else-number-arguments c = part_there c.args.bank.now c.args.id.0 c.in-App.field-0.0 c.args.number c.in-App.arguments.now c.in-App.ensures.tree c.requires c.in-App.ensures.below (record { 0 = 0 }) c.if-number-eq0.false c.if-number-arguments.false
