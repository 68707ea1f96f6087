use Rattle.std.proofs.Common.{◌∙◌, ap, codes}
use Rattle.clap.specs.Simple.{App}
use Rattle.ladr_words.specs.Commands.{mace4_app, number_option, taking}
use Rattle.ladr_words.proofs.commands.mace4.Goals as goal

pub returns-clause-app : goal.returns-clause-app
unfolding mace4_app
returns-clause-app c = c.in_ok-command-4.ensures.app ∙ ap (λ (a : App). taking a (number_option (codes "max_seconds") 116 0 2147483647))
    (c.in_ok-command-3.ensures.app ∙ ap (λ (a : App). taking a (number_option (codes "max_models") 109 1 2147483647))
    (c.in_ok-command-2.ensures.app ∙ ap (λ (a : App). taking a (number_option (codes "end_size") 78 1 200))
    (c.in_ok-command.ensures.app ∙ ap (λ (a : App). taking a (number_option (codes "start_size") 110 1 200)) c.new-command.ensures.app)))
