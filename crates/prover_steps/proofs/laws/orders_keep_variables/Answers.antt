use Rattle.term_order.specs.Kbo.{kbo_greater}
use Rattle.term_order.specs.Lpo.{lpo_greater}
use Rattle.prover_steps.proofs.Orders.{keeps, lpo_has, lpo_below, kbo_has, kbo_below}
use Rattle.prover_steps.proofs.laws.orders_keep_variables.Goals as goal

pub returns : goal.returns
returns c = (
  λ above order. keeps (lpo_greater above) (c.lpo_is_order.ensures above order) (lpo_below above) (lpo_has above),
  λ above weight order heavy. keeps (kbo_greater above weight) (c.kbo_is_order.ensures above weight order heavy) (kbo_below above weight) (kbo_has above weight),
)
