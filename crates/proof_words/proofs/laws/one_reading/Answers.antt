use Rattle.proof_words.proofs.Spellings.{one_front}
use Rattle.proof_words.proofs.laws.one_reading.Goals as goal

pub returns : goal.returns
returns _ = one_front
