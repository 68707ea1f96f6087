use Rattle.std.proofs.Common.{subst, sym}
use Rattle.model_tables.proofs.Decided.{some_expansion}
use Rattle.model_tables.proofs.Expanding.{same_top, kept_row, kept_truth, kept_countermodel, expansion_picks}
use Rattle.model_tables.proofs.Filling.{one_expansion}
use Rattle.model_tables.proofs.laws.expansions.Goals as goal

pub returns-clause-some : goal.returns-clause-some
returns-clause-some c = some_expansion

pub returns-clause-one : goal.returns-clause-one
returns-clause-one c = λ t u v ws h k. one_expansion ws t u v h k

pub returns-clause-picks : goal.returns-clause-picks
returns-clause-picks c = λ t u ws order h. expansion_picks ws t u order h

pub returns-clause-keeps : goal.returns-clause-keeps
returns-clause-keeps c = λ t u ws h. (same_top ws t u h, kept_row ws t u h)

pub returns-clause-says : goal.returns-clause-says
returns-clause-says c = λ t u ws h. (
  λ e f new. (subst (λ A. A) (kept_truth ws t u h e f new), subst (λ A. A) (sym (kept_truth ws t u h e f new))),
  λ ss new. (subst (λ A. A) (kept_countermodel ws t u h ss new), subst (λ A. A) (sym (kept_countermodel ws t u h ss new))),
)
