use Rattle.std.proofs.Common.{length, ap, arith}
use Rattle.resolution.proofs.Going.{places_added}
use Rattle.resolution.proofs.binary.resolve_from.Goals as goal

pub returns : goal.returns
returns c = places_added _ c.args.other.now.clause c.loop-j.j _ _ (omega (arith, ap length c.clause.ensures)) c.loop-j.invariant
