use Rattle.words_print.proofs.SaidWords.{said}
use Rattle.words_print.proofs.laws.words_are_said.Goals as goal

pub returns : goal.returns
returns _ = said
