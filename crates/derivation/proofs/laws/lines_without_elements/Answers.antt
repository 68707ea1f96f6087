use Rattle.derivation.proofs.Elements.{none_within}
use Rattle.derivation.proofs.laws.lines_without_elements.Goals as goal

pub returns : goal.returns
returns c = none_within
