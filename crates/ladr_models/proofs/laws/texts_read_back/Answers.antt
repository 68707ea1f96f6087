use Rattle.ladr_models.proofs.Reading.{reads_back, tokens_back}
use Rattle.ladr_models.proofs.laws.texts_read_back.Goals as goal

pub returns : goal.returns
returns _ = record { text = reads_back; tokens = tokens_back }
