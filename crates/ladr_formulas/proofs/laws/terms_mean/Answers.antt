use Rattle.ladr_formulas.proofs.Breaking.{terms_least}
use Rattle.ladr_formulas.proofs.MeaningLemmas.{terms_reading_mean}
use Rattle.ladr_formulas.proofs.OrderLemmas.{terms_in_order, terms_large}
use Rattle.ladr_formulas.proofs.Unbroken.{terms_reading_unmet}
use Rattle.ladr_formulas.proofs.VariableOrder.{terms_variables}
use Rattle.ladr_formulas.proofs.laws.terms_mean.Goals as goal

pub returns : goal.returns
returns c = record {
  ordered = λ st table ts. terms_in_order st table ts;
  numbered = λ st table ts. terms_variables st table ts;
  arity = λ st table ts. terms_large st table ts;
  least = λ st table ts. terms_least st table ts;
  means = λ st table ts sound. terms_reading_mean st table ts sound;
  unmet = λ st table ts us h. terms_reading_unmet st table ts us h;
}
