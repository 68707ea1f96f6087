-- The laws.
use Rattle.carried_answers.proofs.Behind.{fits_front, leads_before}
use Rattle.carried_answers.proofs.laws.words_stay_before.Goals as goal

pub returns-clause-fits : goal.returns-clause-fits
returns-clause-fits _ = fits_front

pub returns-clause-leads : goal.returns-clause-leads
returns-clause-leads _ = leads_before
