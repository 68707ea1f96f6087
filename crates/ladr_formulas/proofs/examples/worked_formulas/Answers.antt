use Rattle.std.proofs.Common.{refl}
use Rattle.ladr_formulas.specs.Formulas.{named_variable}
use Rattle.ladr_formulas.proofs.examples.worked_formulas.Goals as goal

pub returns : goal.returns
unfolding named_variable
returns c = record {
  bound_and_free = refl;
  names = refl;
  symbols = refl;
  involution = refl;
  one_name_twice = refl;
  three_arities = refl;
  connectives = refl;
  constant_bound = refl;
  denial_of_two = refl;
  element = refl;
  constant = refl;
}
