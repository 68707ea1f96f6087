use Rattle.std.proofs.Common.{refl}
use Rattle.clap.proofs.OnLiterals.{clap_on_literals}
use Rattle.ladr_words.specs.Commands.{ladr_on_literals}
use Rattle.ladr_words.specs.Tasks.{task_of}
use Rattle.ladr_words.proofs.laws.worked.Goals as goal

pub returns-clause-lines : goal.returns-clause-lines
unfolding clap_on_literals ladr_on_literals task_of
returns-clause-lines c = (refl, refl, refl, refl, refl, refl, refl, refl, refl, refl, refl)

pub returns-clause-refusals : goal.returns-clause-refusals
unfolding clap_on_literals ladr_on_literals task_of
returns-clause-refusals c = (refl, refl, refl, refl, refl, refl, refl, refl, refl, refl, refl, refl, refl, refl, refl, refl, refl, refl, refl, refl)
