-- The other variable is bound where this one is kept.
use Rattle.unify.proofs.Pairs.{joins_turned}
use Rattle.unify.proofs.Staying.{turned_stays, variable_stays}
use Rattle.unify.proofs.joining.join_variable.Goals as goal

pub variable_of-requires : goal.variable_of-requires
variable_of-requires c = c.requires.join.work.parts.spots c.args.to c.requires.join.right

pub returns-then-shows-clause-joins : goal.returns-then-shows-clause-joins
returns-then-shows-clause-joins c = joins_turned c.args.bank.now c.args.work.now c.bind_free.new.work c.in-Some.other c.args.spot c.args.to c.bind_free.result c.in-Some.ensures c.bind_free.ensures.joins

pub returns-then-shows-clause-stays : goal.returns-then-shows-clause-stays
returns-then-shows-clause-stays c = turned_stays c.args.bank.now c.args.work.now c.bind_free.new.work c.in-Some.other c.args.spot c.args.to c.bind_free.result c.in-Some.ensures c.bind_free.ensures.stays

pub returns-else-shows-clause-stays : goal.returns-else-shows-clause-stays
returns-else-shows-clause-stays c = variable_stays c.args.bank.now c.args.work.now c.bind.new.work c.args.variable c.args.spot c.args.to c.bind.result c.requires.variable c.bind.ensures.stays

pub returns-in-None-clause-stays : goal.returns-in-None-clause-stays
returns-in-None-clause-stays c = variable_stays c.args.bank.now c.args.work.now c.bind_free-in-None.new.work c.args.variable c.args.spot c.args.to c.bind_free-in-None.result c.requires.variable c.bind_free-in-None.ensures.stays
