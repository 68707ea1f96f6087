use Rattle.answered_lines.proofs.AnswersStay.{answers_stay, answers_name_within}
use Rattle.answered_lines.proofs.AskedRows.{asked_terms_name_not}
use Rattle.answered_lines.proofs.laws.answers_stay_in.Goals as goal

pub returns-clause-signature : goal.returns-clause-signature
returns-clause-signature _ = answers_stay

pub returns-clause-elements : goal.returns-clause-elements
returns-clause-elements _ = answers_name_within

pub returns-clause-terms : goal.returns-clause-terms
returns-clause-terms _ = asked_terms_name_not
