use Rattle.proof_print.proofs.LinesBack.{content_reads}
use Rattle.proof_print.proofs.laws.contents_read_back.Goals as goal

pub returns : goal.returns
returns _ = content_reads
