-- What is told of a line, and what stays.
use Rattle.clause_store.proofs.Lasting as lasting
use Rattle.clause_store.proofs.laws.ancestors_are_one.Goals as goal

pub returns-clause-one : goal.returns-clause-one
returns-clause-one c = lasting.ancestors_are_one

pub returns-clause-stay : goal.returns-clause-stay
returns-clause-stay c = lasting.ancestors_stay
