use Rattle.term_order.proofs.KboOrder.{itself, onward, stays}
use Rattle.term_order.proofs.laws.kbo_is_order.Goals as goal

pub returns : goal.returns
returns c = λ above weight order heavy. record {
  irreflexive = itself above weight order;
  transitive = onward above weight order;
  stable = λ p s t h. stays above weight heavy p order s t h;
}
