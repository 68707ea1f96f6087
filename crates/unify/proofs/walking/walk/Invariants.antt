-- What is left to walk.
use Rattle.std.proofs.Common.{◌≡◌, drop}
use Rattle.unify.specs.Bindings.{IsSpot}
use Rattle.unify.specs.Steps.{walked}
use Rattle.unify.proofs.walking.walk.Given as goal

abbrev pub invariant-loop-b : goal.invariant-loop-b
invariant-loop-b l = record {
  same : walked l.bank (drop l.b-index l.bound.items) l.spot ≡ walked l.bank l.bound.items l.fn.spot;
  spot : IsSpot l.bank l.spot;
}
