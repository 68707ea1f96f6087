use Rattle.std.proofs.Common.{refl}
use Rattle.plain_search.proofs.Working.{fitting, not_closed}
use Rattle.plain_search.proofs.laws.worked_closures.Goals as goal

pub returns-clause-spreads : goal.returns-clause-spreads
returns-clause-spreads c = (refl, refl, refl, refl)

pub returns-clause-contradicts : goal.returns-clause-contradicts
returns-clause-contradicts c = refl

pub returns-clause-reflects : goal.returns-clause-reflects
returns-clause-reflects c = (refl, refl)

pub returns-clause-crosses : goal.returns-clause-crosses
returns-clause-crosses c = refl

pub returns-clause-assigns : goal.returns-clause-assigns
returns-clause-assigns c = refl

pub returns-clause-empties : goal.returns-clause-empties
returns-clause-empties c = refl

pub returns-clause-fits : goal.returns-clause-fits
returns-clause-fits c = fitting

pub returns-clause-begins_open : goal.returns-clause-begins_open
returns-clause-begins_open c = not_closed
