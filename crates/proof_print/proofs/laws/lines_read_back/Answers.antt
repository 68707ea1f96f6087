use Rattle.proof_print.proofs.LinesBack.{lines_read}
use Rattle.proof_print.proofs.laws.lines_read_back.Goals as goal

pub returns : goal.returns
returns _ = lines_read
