use Rattle.unify.proofs.Stays.{no_bindings, oldest, bindings_stay}
use Rattle.unify.proofs.laws.bindings_stay.Goals as goal

pub returns-clause-nothing : goal.returns-clause-nothing
returns-clause-nothing c = no_bindings

pub returns-clause-oldest : goal.returns-clause-oldest
returns-clause-oldest c = oldest

pub returns-clause-grown : goal.returns-clause-grown
returns-clause-grown c = bindings_stay
