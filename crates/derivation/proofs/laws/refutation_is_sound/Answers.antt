use Rattle.std.proofs.Common.{[], None}
use Rattle.derivation.proofs.Induction.{no_way}
use Rattle.derivation.proofs.laws.refutation_is_sound.Goals as goal

pub returns : goal.returns
returns c = λ m lawful ss rows ls atoms names is all. no_way m lawful ss rows [] None ls all atoms names tt is.0 is.1
