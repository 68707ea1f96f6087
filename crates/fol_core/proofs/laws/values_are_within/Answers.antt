use Rattle.fol_core.proofs.TruthLemmas.{value_within}
use Rattle.fol_core.proofs.laws.values_are_within.Goals as goal

pub returns : goal.returns
returns c = λ m lawful e t w names. value_within m lawful e w t names
