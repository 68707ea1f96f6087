use Rattle.std.proofs.Common.{refl}
use Rattle.ladr_formulas.specs.Formulas.{named_variable}
use Rattle.ladr_formulas.proofs.examples.worked_refusals.Goals as goal

pub returns : goal.returns
unfolding named_variable
returns c = record {
  misuses = refl;
  rows = refl;
  least = refl;
  variable = refl;
  prolog = refl;
  no_variable = refl;
  quantifier = refl;
  hash = refl;
  numeral = refl;
  great = refl;
  great_function = refl;
  symbols = refl;
}
