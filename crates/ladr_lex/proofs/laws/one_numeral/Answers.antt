use Rattle.ladr_lex.proofs.Numerals.{whole_decimal, decimal_whole}
use Rattle.ladr_lex.proofs.laws.one_numeral.Goals as goal

pub returns : goal.returns
returns c = record { reads = whole_decimal; writes = decimal_whole }
