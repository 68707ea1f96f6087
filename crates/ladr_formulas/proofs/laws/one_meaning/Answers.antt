use Rattle.ladr_formulas.proofs.OneMeaning.{one_meaning}
use Rattle.ladr_formulas.proofs.laws.one_meaning.Goals as goal

pub returns : goal.returns
returns c = λ st table t f g a b. one_meaning st table t f g a b
