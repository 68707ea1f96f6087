use Rattle.std.proofs.Common.{subst}
use Rattle.prover_steps.specs.Ending.{IsWithinLimits}
use Rattle.prover_steps.proofs.Limits.{start_within, next_within, after_within, picks_some}
use Rattle.prover_steps.proofs.laws.ends_have_reasons.Goals as goal

pub returns : goal.returns
returns c = record {
  start = start_within;
  next = next_within;
  reached = λ st s t w reaches. subst (λ u. IsWithinLimits st u) reaches.1 (after_within st reaches.0 s w);
  picking = picks_some;
}
