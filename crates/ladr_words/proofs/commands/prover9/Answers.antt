use Rattle.std.proofs.Common.{◌∙◌, ap, codes}
use Rattle.clap.specs.Simple.{App}
use Rattle.ladr_words.specs.Commands.{prover9_app, number_option, taking}
use Rattle.ladr_words.proofs.commands.prover9.Goals as goal

pub returns-clause-app : goal.returns-clause-app
unfolding prover9_app
returns-clause-app c = c.in_ok-command.ensures.app ∙ ap (λ (a : App). taking a (number_option (codes "max_seconds") 116 0 2147483647)) c.new-command.ensures.app
