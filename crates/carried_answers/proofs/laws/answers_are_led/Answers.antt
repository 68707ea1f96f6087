-- The laws.
use Rattle.carried_answers.proofs.Alike.{after_alike}
use Rattle.carried_answers.proofs.Leads.{first_leads, first_stops, word_leads, word_stops}
use Rattle.carried_answers.proofs.laws.answers_are_led.Goals as goal

pub returns-clause-alike : goal.returns-clause-alike
returns-clause-alike _ = after_alike

pub returns-clause-first : goal.returns-clause-first
returns-clause-first _ = first_leads

pub returns-clause-none : goal.returns-clause-none
returns-clause-none _ = first_stops

pub returns-clause-word : goal.returns-clause-word
returns-clause-word _ = word_leads

pub returns-clause-stops : goal.returns-clause-stops
returns-clause-stops _ = word_stops
