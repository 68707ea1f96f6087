use Rattle.std.proofs.Common.{refl}
use Rattle.plain_search.proofs.laws.worked_choices.Goals as goal

pub returns-clause-first : goal.returns-clause-first
returns-clause-first c = refl

pub returns-clause-most : goal.returns-clause-most
returns-clause-most c = refl

pub returns-clause-least : goal.returns-clause-least
returns-clause-least c = refl

pub returns-clause-none_in_use : goal.returns-clause-none_in_use
returns-clause-none_in_use c = refl

pub returns-clause-in_use : goal.returns-clause-in_use
returns-clause-in_use c = refl

pub returns-clause-alike : goal.returns-clause-alike
returns-clause-alike c = refl

pub returns-clause-up_to : goal.returns-clause-up_to
returns-clause-up_to c = refl

pub returns-clause-all : goal.returns-clause-all
returns-clause-all c = refl
