use Rattle.substitutions.proofs.Composing.{substitute_twice, substitute_alike, agrees}
use Rattle.substitutions.proofs.Variants.{numbers_stay, instances_same}
use Rattle.substitutions.proofs.laws.clauses_are_decided.Goals as goal

pub returns-clause-compose : goal.returns-clause-compose
returns-clause-compose c = substitute_twice

pub returns-clause-variables : goal.returns-clause-variables
returns-clause-variables c = λ s u t. (substitute_alike s u t, agrees s u t)

pub returns-clause-numbers : goal.returns-clause-numbers
returns-clause-numbers c = numbers_stay

pub returns-clause-variants : goal.returns-clause-variants
returns-clause-variants c = instances_same
