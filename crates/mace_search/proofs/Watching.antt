-- A clock that is watched.
use Rattle.std.proofs.Common.{◌≡◌, ℕ, ◌<◌, arith}
use Rattle.std.proofs.lemmas.Bool.Decides.{nat_tests}
use Rattle.ladr_io.specs.Times.{Times, later}

-- the first reading stands
pub first_stays : (t : Times) (now : ℕ) → 0 < t.count → (later t now).first ≡ t.first
first_stays t now some = grind (arith, nat_tests)
