use Rattle.std.proofs.Common.{refl}
use Rattle.ladr_lex.specs.Bytes.{is_blank, is_ordinary, is_special}
use Rattle.ladr_lex.specs.Starts.{start_of}
use Rattle.ladr_formulas.specs.Formulas.{named_variable}
use Rattle.ladr_reader.specs.Worked.{standard}
use Rattle.ladr_reader.proofs.Lawful.{standard_lawful}
use Rattle.ladr_reader.proofs.Runs.{run_item}
use Rattle.ladr_rules.proofs.laws.worked_rules.Goals as goal

-- a run of the machine of terms
pub returns-clause-text : goal.returns-clause-text
unfolding start_of is_blank is_ordinary is_special
returns-clause-text _ = run_item standard standard_lawful _ _ 700 refl

pub returns-clause-rule : goal.returns-clause-rule
unfolding named_variable
returns-clause-rule _ = refl

pub returns-clause-prolog : goal.returns-clause-prolog
unfolding named_variable
returns-clause-prolog _ = refl

pub returns-clause-numeral : goal.returns-clause-numeral
unfolding named_variable
returns-clause-numeral _ = refl

pub returns-clause-symbols : goal.returns-clause-symbols
unfolding named_variable
returns-clause-symbols _ = refl
