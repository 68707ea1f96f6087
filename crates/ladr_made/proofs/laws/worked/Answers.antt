use Rattle.std.proofs.Common.{refl}
use Rattle.std.specs.Fmt.{digits}
use Rattle.ladr_made.proofs.laws.worked.Goals as goal

pub returns : goal.returns
unfolding digits
returns c = record { one = refl; two = refl; printed = refl }
