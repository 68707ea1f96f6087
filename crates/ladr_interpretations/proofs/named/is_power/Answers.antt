use Rattle.std.proofs.Common.{arith}
use Rattle.ladr_interpretations.proofs.Powers.{not_power}
use Rattle.ladr_interpretations.proofs.named.is_power.Goals as goal

pub returns-in_default : goal.returns-in_default
returns-in_default c =
    not_power _ _ _ _ _ c.requires c.loop-test.true c.loop.invariant (omega (arith, c.in_default.ensures))

pub returns-then-next-len : goal.returns-then-next-len
returns-then-next-len c =
    not_power _ _ _ _ _ c.requires c.loop-test.true c.loop.invariant (omega (arith, c.in-Some.ensures))
