-- The literal is there.
use Rattle.inference.proofs.ClashSteps.{place_within}
use Rattle.inference.proofs.plain.ClauseUnderway.is_repeated.Goals as goal

pub is_repeated-requires : goal.is_repeated-requires
is_repeated-requires c = place_within c.args.self.now c.args.place c.requires
