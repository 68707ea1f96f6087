use Rattle.term_order.proofs.Listing.{table_is_ordered}
use Rattle.term_order.proofs.laws.tables_are_ordered.Goals as goal

pub returns : goal.returns
returns c = λ listed weights table. table_is_ordered listed weights table
