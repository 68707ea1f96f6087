-- The product of two numbers of 64 bits, and one more, fit 128 bits.
use Rattle.std.proofs.Common.{◌≤◌, ◌*◌, arith}
use Rattle.std.proofs.lemmas.Nat.{mul-le}
use Rattle.term_unifiers.proofs.apart.number_apart.Goals as goal

pub overflow_mul-product : goal.overflow_mul-product
overflow_mul-product c =
    let most : c.args.x * c.args.many ≤ 18446744073709551615 * 18446744073709551615 = mul-le c.args.x c.args.many 18446744073709551615 18446744073709551615 (omega arith) (omega arith) in
    omega (arith, most)

pub overflow_add-result : goal.overflow_add-result
overflow_add-result c =
    let most : c.args.x * c.args.many ≤ 18446744073709551615 * 18446744073709551615 = mul-le c.args.x c.args.many 18446744073709551615 18446744073709551615 (omega arith) (omega arith) in
    omega (arith, most)
