use Rattle.std.proofs.Common.{refl}
use Rattle.ladr_lex.specs.Bytes.{is_blank, is_ordinary, is_special}
use Rattle.ladr_lex.specs.Starts.{start_of}
use Rattle.ladr_reader.specs.Table.{table_of}
use Rattle.ladr_reader.specs.Worked.{standard}
use Rattle.ladr_reader.proofs.Lawful.{standard_lawful, table_lawful}
use Rattle.ladr_reader.proofs.Runs.{run_item}
use Rattle.proof_lines.specs.WorkedLines.{words_before}
use Rattle.proof_lines.proofs.laws.worked_answers.Goals as goal

pub returns-clause-marks : goal.returns-clause-marks
unfolding start_of is_blank is_ordinary is_special
returns-clause-marks _ = refl

pub returns-clause-one : goal.returns-clause-one
unfolding start_of is_blank is_ordinary is_special
returns-clause-one _ = run_item standard standard_lawful _ _ 810 refl

pub returns-clause-operators : goal.returns-clause-operators
unfolding start_of is_blank is_ordinary is_special
returns-clause-operators _ = run_item (table_of words_before) (table_lawful words_before refl) _ _ 810 refl
