use Rattle.substitutions.proofs.Truth.{substitute_value, instance_clause}
use Rattle.substitutions.proofs.laws.instances_have_truth.Goals as goal

pub returns-clause-values : goal.returns-clause-values
returns-clause-values c = substitute_value

pub returns-clause-truth : goal.returns-clause-truth
returns-clause-truth c = instance_clause
