use Rattle.unifiers.proofs.MatchesFound.{match_makes, match_found}
use Rattle.unifiers.proofs.laws.matches_are_found.Goals as goal

pub returns-clause-make : goal.returns-clause-make
returns-clause-make c = match_makes

pub returns-clause-found : goal.returns-clause-found
returns-clause-found c = match_found
