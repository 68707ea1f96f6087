use Rattle.substitutions.proofs.Replacing.{replaced_same}
use Rattle.substitutions.proofs.laws.replacing_keeps_values.Goals as goal

pub returns : goal.returns
returns c = λ m e t old new path. replaced_same m e t path old new
