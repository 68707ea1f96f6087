use Rattle.unify.proofs.Solutions.{solved}
use Rattle.unify.proofs.Stays.{most_general, united_general, apart_none}
use Rattle.unify.proofs.laws.resolved_is_most_general.Goals as goal

pub returns-clause-solved : goal.returns-clause-solved
returns-clause-solved c = solved

pub returns-clause-general : goal.returns-clause-general
returns-clause-general c = most_general

pub returns-clause-united : goal.returns-clause-united
returns-clause-united c = united_general

pub returns-clause-apart : goal.returns-clause-apart
returns-clause-apart c = apart_none
