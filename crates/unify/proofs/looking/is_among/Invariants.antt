-- It is none of those so far.
use Rattle.std.proofs.Common.{take}
use Rattle.unify.specs.Spots.{In}
use Rattle.unify.proofs.looking.is_among.Given as goal

abbrev pub invariant-loop-q : goal.invariant-loop-q
invariant-loop-q l = ¬ In l.p (take l.q-index l.spots.items)
