-- The literal is there.
use Rattle.std.proofs.Common.{◌∙◌}
use Rattle.inference.proofs.ClashSteps.{place_within}
use Rattle.inference.proofs.PlainSteps.{taken_others}
use Rattle.inference.proofs.plain.ClauseUnderway.take_out.Goals as goal

pub take_out-requires : goal.take_out-requires
take_out-requires c = place_within c.args.self.now c.args.place c.requires

pub returns : goal.returns
returns c = c.take_out.ensures ∙ taken_others c.args.self.now c.args.place (place_within c.args.self.now c.args.place c.requires)
