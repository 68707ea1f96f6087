use Rattle.prover_steps.proofs.Chains.{leads_to}
use Rattle.prover_steps.proofs.Ordering.{order_leads}
use Rattle.prover_steps.proofs.laws.clauses_are_put_in_order.Goals as goal

pub returns : goal.returns
returns c = λ ls greater units held d have. leads_to ls c.clauses_are_decided.ensures.numbers _ d _ (order_leads ls c.matches_are_found.ensures.make greater units held d have)
