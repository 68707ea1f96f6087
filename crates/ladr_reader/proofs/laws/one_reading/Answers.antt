use Rattle.ladr_reader.proofs.Complete.{reads_one, item_one}
use Rattle.ladr_reader.proofs.laws.one_reading.Goals as goal

pub returns : goal.returns
returns c = record { terms = reads_one; items = item_one }
