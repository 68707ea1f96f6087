use Rattle.ladr_interpretations.proofs.CoversLemmas.{test_tells}
use Rattle.ladr_interpretations.proofs.laws.covers_all.Goals as goal

pub returns : goal.returns
returns c = test_tells
