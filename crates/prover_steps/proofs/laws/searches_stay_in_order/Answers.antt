use Rattle.std.proofs.Common.{subst}
use Rattle.prover_steps.specs.HeldOrder.{IsInOrder}
use Rattle.prover_steps.proofs.Ordered.{next_in_order, after_in_order}
use Rattle.prover_steps.proofs.StartOrder.{starts_in_order}
use Rattle.prover_steps.proofs.laws.searches_stay_in_order.Goals as goal

pub returns : goal.returns
returns c = record {
  start = starts_in_order;
  next = next_in_order;
  reached = λ st s t o reaches. subst (λ u. IsInOrder u) reaches.1 (after_in_order st reaches.0 s o);
}
