use Rattle.std.proofs.Common.{refl}
use Rattle.ladr_formulas.proofs.examples.worked_variables.Goals as goal

pub returns : goal.returns
returns c = record {
  bound_and_free = refl;
  one_name_twice = refl;
  three_arities = refl;
  constant_bound = refl;
  prolog = refl;
}
