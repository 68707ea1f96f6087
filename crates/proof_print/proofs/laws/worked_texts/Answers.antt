use Rattle.std.proofs.Common.{refl, arith}
use Rattle.std.proofs.lemmas.Fmt.{decimal_digit}
use Rattle.ladr_lex.specs.Bytes.{is_ordinary, is_special}
use Rattle.proof_print.proofs.laws.worked_texts.Goals as goal

pub returns-clause-clause : goal.returns-clause-clause
unfolding is_ordinary is_special
returns-clause-clause _ = refl

pub returns-clause-none : goal.returns-clause-none
returns-clause-none _ = refl

pub returns-clause-frame : goal.returns-clause-frame
returns-clause-frame _ = simp (decimal_digit 6 (omega arith))

pub returns-clause-head : goal.returns-clause-head
returns-clause-head _ = simp (decimal_digit 1 (omega arith), decimal_digit 7 (omega arith), decimal_digit 2 (omega arith), decimal_digit 4 (omega arith), decimal_digit 3 (omega arith))
