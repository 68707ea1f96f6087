use Rattle.std.proofs.Common.{refl}
use Rattle.ladr_lex.specs.Bytes.{is_blank, is_ordinary, is_special}
use Rattle.ladr_lex.specs.Starts.{start_of}
use Rattle.ladr_formulas.specs.Formulas.{named_variable}
use Rattle.ladr_reader.specs.Worked.{standard}
use Rattle.ladr_reader.proofs.Lawful.{standard_lawful}
use Rattle.ladr_reader.proofs.Runs.{run_item}
use Rattle.ladr_rules.proofs.laws.worked.Goals as goal

-- a run of the machine of terms
pub returns-clause-text : goal.returns-clause-text
unfolding start_of is_blank is_ordinary is_special
returns-clause-text _ = run_item standard standard_lawful _ _ 810 refl

pub returns-clause-hint : goal.returns-clause-hint
unfolding named_variable
returns-clause-hint _ = refl

pub returns-clause-demodulator : goal.returns-clause-demodulator
unfolding named_variable
returns-clause-demodulator _ = refl

pub returns-clause-variable_on_the_left : goal.returns-clause-variable_on_the_left
unfolding named_variable
returns-clause-variable_on_the_left _ = refl

pub returns-clause-other_variable : goal.returns-clause-other_variable
unfolding named_variable
returns-clause-other_variable _ = refl
