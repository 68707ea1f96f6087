use Rattle.printed_proofs.proofs.PrintedBlocks.{proofs_read}
use Rattle.printed_proofs.proofs.laws.printed_proofs_are_read.Goals as goal

pub returns : goal.returns
returns _ = proofs_read
