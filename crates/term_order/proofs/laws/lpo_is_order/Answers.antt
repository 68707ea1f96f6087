use Rattle.term_order.proofs.LpoOrder.{itself, onward}
use Rattle.term_order.proofs.LpoStable.{stays}
use Rattle.term_order.proofs.laws.lpo_is_order.Goals as goal

pub returns : goal.returns
returns c = λ above order. record {
  irreflexive = itself above order;
  transitive = onward above order;
  stable = stays above order;
}
