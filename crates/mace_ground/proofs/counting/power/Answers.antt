use Rattle.std.proofs.Common.{arith}
use Rattle.mace_ground.proofs.Sums.{small_base, great_power}
use Rattle.mace_ground.proofs.counting.power.Goals as goal

pub returns-then-base-lt2 : goal.returns-then-base-lt2
returns-then-base-lt2 c = omega (arith, c.from.ensures, c.if-base-lt2.true, small_base c.args.base c.args.exponent c.if-exponent-eq0.false c.if-base-lt2.true)

pub returns-else-exponent-lt128 : goal.returns-else-exponent-lt128
returns-else-exponent-lt128 c = omega (arith, great_power c.args.base c.args.exponent c.if-base-lt2.false c.if-exponent-lt128.false)
