use Rattle.std.proofs.Common.{refl}
use Rattle.ladr_formulas.proofs.examples.worked_symbols.Goals as goal

pub returns : goal.returns
returns c = record {
  three_arities = refl;
  premise_first = refl;
  connectives = refl;
  constant_bound = refl;
  element = refl;
  constant = refl;
  involution = refl;
  once = refl;
  known = refl;
}
