use Rattle.std.proofs.Common.{refl}
use Rattle.ladr_lex.proofs.OperatorLemmas.{quoted_none}
use Rattle.ladr_reader.proofs.Quoted.{no_word, no_numeral}
use Rattle.ladr_reader.proofs.laws.quoted_symbols.Goals as goal

pub returns : goal.returns
returns c = record { operator = quoted_none; word = λ rows. no_word; bound = λ rows text. refl; numeral = no_numeral }
