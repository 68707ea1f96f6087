use Rattle.std.proofs.Common.{inl, inr, refl}
use Rattle.plain_search.proofs.order.worked_orders.Goals as goal

pub returns-clause-spreads : goal.returns-clause-spreads
returns-clause-spreads c = (refl, refl, refl, refl)

pub returns-clause-once : goal.returns-clause-once
returns-clause-once c = refl

pub returns-clause-contradicts : goal.returns-clause-contradicts
returns-clause-contradicts c = refl

pub returns-clause-waits : goal.returns-clause-waits
returns-clause-waits c = refl

pub returns-clause-asks : goal.returns-clause-asks
returns-clause-asks c = refl

pub returns-clause-obeys : goal.returns-clause-obeys
returns-clause-obeys c = λ u i. elim i [ inl e ↦ e | inr h ↦ absurd h ]
