use Rattle.std.proofs.Common.{refl}
use Rattle.std.specs.Fmt.{digits}
use Rattle.clausify.proofs.laws.worked.Goals as goal

pub returns-clause-single : goal.returns-clause-single
unfolding digits
returns-clause-single c = (refl, refl, refl)

pub returns-clause-goal : goal.returns-clause-goal
unfolding digits
returns-clause-goal c = (refl, refl)

pub returns-clause-names : goal.returns-clause-names
unfolding digits
returns-clause-names c = (refl, refl)
