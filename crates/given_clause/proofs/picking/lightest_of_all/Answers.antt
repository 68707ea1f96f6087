use Rattle.std.proofs.Common.{◌∙◌}
use Rattle.given_clause.specs.Guides.{setting_of}
use Rattle.given_clause.proofs.Lightest.{all_weighed}
use Rattle.given_clause.proofs.picking.lightest_of_all.Goals as goal

pub returns : goal.returns
returns c = c.lightest_among.ensures ∙ all_weighed (setting_of c.args.guide.now) c.args.waiting.now.held
