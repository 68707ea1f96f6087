use Rattle.std.proofs.Common.{◌∙◌, ◌++◌, length, ap, arith}
use Rattle.resolution.specs.View.{all_conclusions}
use Rattle.resolution.proofs.Coming.{tried_are}
use Rattle.resolution.proofs.Going.{places_added}
use Rattle.resolution.proofs.binary.resolve_with.Goals as goal

pub returns : goal.returns
returns c =
    places_added _ c.args.given.now.clause c.loop-i.i _ _ (omega (arith, ap length c.clause.ensures)) c.loop-i.invariant
    ∙ ap (λ ns. all_conclusions c.args.made.now.items ++ ns) (tried_are c.args.given.now c.args.other.now)
