use Rattle.std.proofs.Common.{is_some, sym, ap, ◌∙◌}
use Rattle.prover_steps.proofs.Sound.{ends_once}
use Rattle.prover_steps.proofs.laws.searches_end_once.Goals as goal

pub returns : goal.returns
returns c = λ st s t u first second e f.
    sym first.1 ∙ ends_once st first.0 second.0 s (ap (λ v. is_some v.ended) first.1 ∙ e) (ap (λ v. is_some v.ended) second.1 ∙ f) ∙ second.1
