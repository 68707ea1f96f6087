use Rattle.std.proofs.Common.{refl, arith}
use Rattle.std.proofs.lemmas.Fmt.{decimal_digit}
use Rattle.words_print.proofs.laws.worked_words.Goals as goal

pub returns-clause-names : goal.returns-clause-names
returns-clause-names _ = (refl, refl, refl, refl, refl)

pub returns-clause-goal : goal.returns-clause-goal
returns-clause-goal _ = refl

pub returns-clause-input : goal.returns-clause-input
returns-clause-input _ = simp (decimal_digit 3 (omega arith))

pub returns-clause-resolve : goal.returns-clause-resolve
returns-clause-resolve _ = simp (decimal_digit 3 (omega arith), decimal_digit 5 (omega arith))

pub returns-clause-hyper : goal.returns-clause-hyper
returns-clause-hyper _ = simp (decimal_digit 4 (omega arith), decimal_digit 5 (omega arith), decimal_digit 6 (omega arith))

pub returns-clause-factor : goal.returns-clause-factor
returns-clause-factor _ = simp (decimal_digit 3 (omega arith))

pub returns-clause-para : goal.returns-clause-para
returns-clause-para _ = simp (decimal_digit 7 (omega arith), decimal_digit 1 (omega arith), decimal_digit 8 (omega arith), decimal_digit 2 (omega arith))

pub returns-clause-rewritings : goal.returns-clause-rewritings
returns-clause-rewritings _ = simp (decimal_digit 4 (omega arith), decimal_digit 5 (omega arith), decimal_digit 1 (omega arith), decimal_digit 2 (omega arith), decimal_digit 6 (omega arith))
