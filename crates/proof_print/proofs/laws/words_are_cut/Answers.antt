use Rattle.proof_print.proofs.LinesBack.{words_cut}
use Rattle.proof_print.proofs.laws.words_are_cut.Goals as goal

pub returns : goal.returns
returns _ = words_cut
