use Rattle.std.proofs.Common.{refl}
use Rattle.ladr_distinct.specs.Formula.{halved, distinct_formula}
use Rattle.ladr_distinct.proofs.laws.worked_terms.Goals as goal
use Rattle.ladr_formulas.specs.Formulas.{named_variable}

pub returns-clause-constants : goal.returns-clause-constants
unfolding halved distinct_formula named_variable
returns-clause-constants c = refl

pub returns-clause-elements : goal.returns-clause-elements
unfolding halved distinct_formula named_variable
returns-clause-elements c = refl
