use Rattle.ladr_print.proofs.Clausal.{clause_back}
use Rattle.ladr_print.proofs.laws.printed_clause_states_again.Goals as goal

pub returns : goal.returns
returns c = clause_back
