use Rattle.ladr_formulas.proofs.Breaking.{reading_least}
use Rattle.ladr_formulas.proofs.MeaningLemmas.{reading_means}
use Rattle.ladr_formulas.proofs.OrderLemmas.{read_in_order, read_large}
use Rattle.ladr_formulas.proofs.Unbroken.{reading_unmet}
use Rattle.ladr_formulas.proofs.VariableOrder.{variables_read}
use Rattle.ladr_formulas.proofs.laws.readings_mean.Goals as goal

pub returns : goal.returns
returns c = record {
  ordered = λ st table t. read_in_order st table t;
  numbered = λ st table t. variables_read st table t;
  arity = λ st table t. read_large st table t;
  least = λ st table t. reading_least st table t;
  means = λ st table t sound. reading_means st table t sound;
  unmet = λ st table t f h. reading_unmet st table t f h;
}
