use Rattle.std.proofs.Common.{refl}
use Rattle.plain_search.proofs.laws.worked_scores.Goals as goal

pub returns-clause-occurrences : goal.returns-clause-occurrences
returns-clause-occurrences c = refl

pub returns-clause-assignments : goal.returns-clause-assignments
returns-clause-assignments c = refl

pub returns-clause-contradictions : goal.returns-clause-contradictions
returns-clause-contradictions c = refl

pub returns-clause-most_occurrences : goal.returns-clause-most_occurrences
returns-clause-most_occurrences c = refl

pub returns-clause-most_assigned : goal.returns-clause-most_assigned
returns-clause-most_assigned c = refl

pub returns-clause-inner : goal.returns-clause-inner
returns-clause-inner c = refl

pub returns-clause-assigning : goal.returns-clause-assigning
returns-clause-assigning c = refl

pub returns-clause-contradicting : goal.returns-clause-contradicting
returns-clause-contradicting c = refl

pub returns-clause-crossed : goal.returns-clause-crossed
returns-clause-crossed c = refl

pub returns-clause-by_occurrences : goal.returns-clause-by_occurrences
returns-clause-by_occurrences c = refl

pub returns-clause-by_assignments : goal.returns-clause-by_assignments
returns-clause-by_assignments c = refl

pub returns-clause-by_contradictions : goal.returns-clause-by_contradictions
returns-clause-by_contradictions c = refl

pub returns-clause-all_values : goal.returns-clause-all_values
returns-clause-all_values c = refl
