use Rattle.plain_search.proofs.Agreeing.{closure_in_any_order, closure_is_widest, contradiction_in_any_order, none_is_closed}
use Rattle.plain_search.proofs.order.closing_has_one_result.Goals as goal

pub returns-clause-order : goal.returns-clause-order
returns-clause-order c = closure_in_any_order

pub returns-clause-contradiction : goal.returns-clause-contradiction
returns-clause-contradiction c = contradiction_in_any_order

pub returns-clause-widest : goal.returns-clause-widest
returns-clause-widest c = closure_is_widest

pub returns-clause-none : goal.returns-clause-none
returns-clause-none c = none_is_closed
