use Rattle.term_order.proofs.Heads.{rows_order}
use Rattle.term_order.proofs.laws.symbols_are_ordered.Goals as goal

pub returns : goal.returns
returns c = λ rows. rows_order rows
