use Rattle.ladr_lex.proofs.OperatorLemmas.{operator_put, fixed_kept, quoted_none}
use Rattle.ladr_lex.proofs.laws.one_operator.Goals as goal

pub returns : goal.returns
returns c = record { put = operator_put; kept = fixed_kept; quotes = quoted_none }
