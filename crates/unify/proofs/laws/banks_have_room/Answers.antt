use Rattle.unify.proofs.Rooming.{banks_have_room, contexts_stay}
use Rattle.unify.proofs.laws.banks_have_room.Goals as goal

pub returns-clause-room : goal.returns-clause-room
returns-clause-room c = banks_have_room

pub returns-clause-contexts : goal.returns-clause-contexts
returns-clause-contexts c = contexts_stay
