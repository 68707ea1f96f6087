use Rattle.std.proofs.Common.{refl}
use Rattle.plain_search.proofs.order.worked_events.Goals as goal

pub returns-clause-all : goal.returns-clause-all
returns-clause-all c = refl

pub returns-clause-followed : goal.returns-clause-followed
returns-clause-followed c = refl

pub returns-clause-two : goal.returns-clause-two
returns-clause-two c = refl

pub returns-clause-left : goal.returns-clause-left
returns-clause-left c = refl

pub returns-clause-over : goal.returns-clause-over
returns-clause-over c = refl

pub returns-clause-within : goal.returns-clause-within
returns-clause-within c = refl
