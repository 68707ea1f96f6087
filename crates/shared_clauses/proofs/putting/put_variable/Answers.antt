-- The term that is bound to it, or the variable.
use Rattle.std.proofs.Common.{length}
use Rattle.shared_clauses.specs.Bound.{bound_in}
use Rattle.shared_clauses.proofs.PutSteps.{value_put, value_there}
use Rattle.shared_clauses.proofs.putting.put_variable.Goals as goal

pub returns-in-Some-clause-term : goal.returns-in-Some-clause-term
returns-in-Some-clause-term c = value_there c.args.bank.now c.args.bindings.now c.args.x c.in-Some.id (c.in-Some.ensures.term c.args.bank.now) (c.in-Some.ensures.within (length c.args.bank.now) c.requires)

pub returns-in-None-clause-term : goal.returns-in-None-clause-term
returns-in-None-clause-term c = value_put c.put.result c.put.new.self (bound_in c.args.bank.now c.args.bindings.now) c.args.x (c.in-None.ensures.term c.args.bank.now) c.put.ensures.term
