use Rattle.answered_lines.proofs.WorkedLemmas.{unit, rule, refutation, faults, quiet}
use Rattle.answered_lines.proofs.laws.worked.Goals as goal

pub returns-clause-unit : goal.returns-clause-unit
returns-clause-unit _ = unit

pub returns-clause-rule : goal.returns-clause-rule
returns-clause-rule _ = rule

pub returns-clause-refutation : goal.returns-clause-refutation
returns-clause-refutation _ = refutation

pub returns-clause-truth : goal.returns-clause-truth
returns-clause-truth _ = λ m n. (λ h. h, λ h. h)

pub returns-clause-faults : goal.returns-clause-faults
returns-clause-faults _ = faults

pub returns-clause-silent : goal.returns-clause-silent
returns-clause-silent _ = quiet
