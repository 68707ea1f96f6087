use Rattle.substitutions.proofs.Numbering.{renumbered_true, true_renumbered}
use Rattle.substitutions.proofs.laws.numbering_keeps_truth.Goals as goal

pub returns : goal.returns
returns c = λ m d. (true_renumbered m d, renumbered_true m d)
