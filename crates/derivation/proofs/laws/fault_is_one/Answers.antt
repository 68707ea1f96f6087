use Rattle.derivation.proofs.Rows.{whole_fault_none, whole_fault_once}
use Rattle.derivation.proofs.laws.fault_is_one.Goals as goal

pub returns-clause-none : goal.returns-clause-none
returns-clause-none c = whole_fault_none

pub returns-clause-one : goal.returns-clause-one
returns-clause-one c = whole_fault_once
