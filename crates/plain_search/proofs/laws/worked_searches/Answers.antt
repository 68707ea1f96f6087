use Rattle.std.proofs.Common.{refl}
use Rattle.plain_search.proofs.laws.worked_searches.Goals as goal

pub returns-clause-two : goal.returns-clause-two
returns-clause-two c = refl

pub returns-clause-one : goal.returns-clause-one
returns-clause-one c = refl

pub returns-clause-three : goal.returns-clause-three
returns-clause-three c = refl

pub returns-clause-four : goal.returns-clause-four
returns-clause-four c = refl

pub returns-clause-named : goal.returns-clause-named
returns-clause-named c = refl

pub returns-clause-single : goal.returns-clause-single
returns-clause-single c = refl
