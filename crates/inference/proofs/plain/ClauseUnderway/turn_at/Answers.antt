-- The literal is there.
use Rattle.inference.proofs.ClashSteps.{place_within}
use Rattle.inference.proofs.plain.ClauseUnderway.turn_at.Goals as goal

pub turn_at-requires-clause-place : goal.turn_at-requires-clause-place
turn_at-requires-clause-place c = place_within c.args.self.now c.args.place c.requires.place
