use Rattle.ladr_formulas.proofs.Behind.{read_behind}
use Rattle.ladr_formulas.proofs.laws.larger_tables.Goals as goal

pub returns : goal.returns
returns c = λ st table larger t k. read_behind larger st table t k
