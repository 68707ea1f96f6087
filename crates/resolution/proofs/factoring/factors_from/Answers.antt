use Rattle.std.proofs.Common.{length, ap, arith, nat_lt}
use Rattle.resolution.specs.Tries.{factor_at}
use Rattle.resolution.proofs.Going.{place_kept}
use Rattle.resolution.proofs.factoring.factors_from.Goals as goal

pub returns : goal.returns
returns c = place_kept (nat_lt c.args.a) (factor_at c.args.given.now c.args.a) c.args.given.now.clause c.loop-b.b _ _ (omega (arith, ap length c.clause.ensures)) c.loop-b.invariant
