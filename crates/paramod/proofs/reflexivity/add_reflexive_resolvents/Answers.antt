use Rattle.std.proofs.Common.{length, ap, arith}
use Rattle.resolution.proofs.Going.{places_added}
use Rattle.paramod.proofs.reflexivity.add_reflexive_resolvents.Goals as goal

pub returns : goal.returns
returns c = places_added _ c.args.given.now.clause c.loop-a.a _ _ (omega (arith, ap length c.clause.ensures)) c.loop-a.invariant
