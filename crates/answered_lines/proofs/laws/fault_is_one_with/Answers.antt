use Rattle.answered_lines.proofs.RefusedLines.{whole_fault_none_with, whole_fault_once_with}
use Rattle.answered_lines.proofs.laws.fault_is_one_with.Goals as goal

pub returns-clause-none : goal.returns-clause-none
returns-clause-none _ = whole_fault_none_with

pub returns-clause-one : goal.returns-clause-one
returns-clause-one _ = whole_fault_once_with
