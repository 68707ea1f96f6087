use Rattle.ladr_print.proofs.Clausal.{clause_both, term_both}
use Rattle.ladr_print.proofs.Stating.{formula_again}
use Rattle.ladr_print.proofs.laws.printed_reads_again.Goals as goal

pub returns : goal.returns
returns c = record { formula = formula_again; clause = clause_both; term = term_both }
