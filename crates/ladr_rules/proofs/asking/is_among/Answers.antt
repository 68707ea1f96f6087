use Rattle.std.proofs.Common.{ap, is_some, ◌∙◌}
use Rattle.ladr_rules.proofs.AskedParts.{is_placed}
use Rattle.ladr_rules.proofs.asking.is_among.Goals as goal

pub returns : goal.returns
returns c = c.is_some.ensures ∙ ap is_some c.first_among.ensures ∙ is_placed c.args.place c.args.places.now
