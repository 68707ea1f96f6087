use Rattle.proof_lines.proofs.OneFault.{fault_once}
use Rattle.proof_lines.proofs.laws.one_fault.Goals as goal

pub returns : goal.returns
returns _ = fault_once
