use Rattle.printed_proofs.proofs.PrintedBlocks.{framed}
use Rattle.printed_proofs.proofs.laws.frames_are_read.Goals as goal

pub returns : goal.returns
returns _ = framed
