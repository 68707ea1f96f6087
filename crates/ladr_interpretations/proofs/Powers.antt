-- Powers that are passed.
use Rattle.std.proofs.Common.{◌≡◌, ℕ, ◌+◌, ◌*◌, ◌^◌, ◌<◌, ◌≤◌, ◌==◌, false, add-one, arith}
use Rattle.std.proofs.Math.Nat.{pow-le-pow_right, pow-suc}
use Rattle.std.proofs.lemmas.Bool.Decides.{nat_tests}

-- what is less than a later power is no power of this many
pub not_power : (len size arity i product : ℕ) → 1 ≤ size → i < arity → product ≡ size ^ i → len < product * size → false ≡ (len == size ^ arity)
not_power len size arity i product one below e less =
    let k : size ^ (i + 1) ≤ size ^ arity = pow-le-pow_right one (omega arith) in
    let m : size ^ (i + 1) ≡ size ^ i * size = rw add-one (pow-suc size i) in
    let l : len < size ^ i * size = rw e at less in
    let big : len < size ^ arity = omega arith in
    grind (arith, nat_tests)
