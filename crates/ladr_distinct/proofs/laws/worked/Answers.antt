use Rattle.std.proofs.Common.{refl}
use Rattle.ladr_distinct.specs.Formula.{halved, distinct_formula}
use Rattle.ladr_distinct.proofs.laws.worked.Goals as goal

pub returns : goal.returns
unfolding halved distinct_formula
returns c = record { none = refl; single = refl; twice = refl; three = refl; four = refl }
