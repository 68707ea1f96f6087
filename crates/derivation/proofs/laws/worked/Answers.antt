use Rattle.derivation.proofs.WorkedLemmas.{later, refutation, faults}
use Rattle.derivation.proofs.laws.worked.Goals as goal

pub returns-clause-later : goal.returns-clause-later
returns-clause-later c = later

pub returns-clause-refutation : goal.returns-clause-refutation
returns-clause-refutation c = refutation

pub returns-clause-faults : goal.returns-clause-faults
returns-clause-faults c = faults
