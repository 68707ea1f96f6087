-- A node that takes part is a spot.
use Rattle.unify.proofs.joining.stand.Goals as goal

pub walk-requires-clause-spot : goal.walk-requires-clause-spot
walk-requires-clause-spot c = c.requires.work.parts.spots c.args.spot c.requires.left
