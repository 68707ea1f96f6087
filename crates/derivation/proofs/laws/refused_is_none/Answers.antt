use Rattle.derivation.proofs.Rows.{refused_none, refused_once}
use Rattle.derivation.proofs.laws.refused_is_none.Goals as goal

pub returns-clause-none : goal.returns-clause-none
returns-clause-none c = refused_none

pub returns-clause-one : goal.returns-clause-one
returns-clause-one c = refused_once
