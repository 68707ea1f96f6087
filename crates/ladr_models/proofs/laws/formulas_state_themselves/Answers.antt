use Rattle.std.proofs.Common.{refl}
use Rattle.ladr_lex.specs.Bytes.{is_ordinary, is_special}
use Rattle.ladr_models.proofs.Restating.{states_themselves, operators_fixed}
use Rattle.ladr_models.proofs.laws.formulas_state_themselves.Goals as goal

pub returns : goal.returns
unfolding is_ordinary is_special
returns c = record { formulas = states_themselves; operators = operators_fixed; worked = refl }
