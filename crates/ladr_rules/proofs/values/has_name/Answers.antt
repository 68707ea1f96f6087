use Rattle.std.proofs.Common.{◌∙◌}
use Rattle.ladr_rules.proofs.Keeping.{is_among}
use Rattle.ladr_rules.proofs.values.has_name.Goals as goal

pub returns : goal.returns
returns c = c.contains.ensures ∙ is_among c.args.name.now c.args.names.now.keys
