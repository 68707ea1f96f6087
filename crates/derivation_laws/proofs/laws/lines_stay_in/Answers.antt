use Rattle.derivation_laws.proofs.Lines.{stay_in}
use Rattle.derivation_laws.proofs.laws.lines_stay_in.Goals as goal

pub returns : goal.returns
returns _ = stay_in
