use Rattle.proof_lines.proofs.OneLine.{one_line}
use Rattle.proof_lines.proofs.laws.one_line.Goals as goal

pub returns : goal.returns
returns _ = one_line
