use Rattle.discrim_tree.proofs.Linear.{fitted_linear, linear_fitted}
use Rattle.discrim_tree.proofs.Repeated.{repeats_decide}
use Rattle.discrim_tree.proofs.Terms.{instances_are_made, unifiers_are_of_two}
use Rattle.discrim_tree.proofs.laws.tests_are_exact.Goals as goal

pub returns-clause-instances : goal.returns-clause-instances
returns-clause-instances c = instances_are_made

pub returns-clause-unifiers : goal.returns-clause-unifiers
returns-clause-unifiers c = unifiers_are_of_two

pub returns-clause-linear : goal.returns-clause-linear
returns-clause-linear c = λ k s t. (fitted_linear k s t, linear_fitted k s t)

pub returns-clause-repeats : goal.returns-clause-repeats
returns-clause-repeats c = repeats_decide
