-- By which of the two is a variable.
use Rattle.unify.proofs.Pairs.{joins_turned}
use Rattle.unify.proofs.Staying.{turned_stays}
use Rattle.unify.proofs.joining.join.Goals as goal

pub variable_of-requires : goal.variable_of-requires
variable_of-requires c = c.requires.work.parts.spots c.args.p c.requires.left

pub variable_of-requires-in-None : goal.variable_of-requires-in-None
variable_of-requires-in-None c = c.requires.work.parts.spots c.args.q c.requires.right

pub returns-in-Some-variable_of-clause-joins : goal.returns-in-Some-variable_of-clause-joins
returns-in-Some-variable_of-clause-joins c =
    joins_turned c.args.bank.now c.args.work.now c.bind_free.new.work c.in-Some-variable_of.y c.args.p c.args.q c.bind_free.result c.in-Some-variable_of.ensures c.bind_free.ensures.joins

pub returns-in-Some-variable_of-clause-stays : goal.returns-in-Some-variable_of-clause-stays
returns-in-Some-variable_of-clause-stays c =
    turned_stays c.args.bank.now c.args.work.now c.bind_free.new.work c.in-Some-variable_of.y c.args.p c.args.q c.bind_free.result c.in-Some-variable_of.ensures c.bind_free.ensures.stays
