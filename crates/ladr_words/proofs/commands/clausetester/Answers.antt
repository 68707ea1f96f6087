use Rattle.std.proofs.Common.{◌∙◌, ap₂}
use Rattle.ladr_words.specs.Commands.{clausetester_app, taking}
use Rattle.ladr_words.proofs.commands.clausetester.Goals as goal

pub returns-clause-app : goal.returns-clause-app
unfolding clausetester_app
returns-clause-app c = c.in_ok-command.ensures.app ∙ ap₂ taking c.new-command.ensures.app c.flag-filter.ensures.rule
