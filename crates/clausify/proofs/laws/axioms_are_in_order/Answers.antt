use Rattle.clausify.proofs.Fresh.{all_in_order}
use Rattle.clausify.proofs.laws.axioms_are_in_order.Goals as goal

pub returns-clause-order : goal.returns-clause-order
returns-clause-order c = λ table p well_formed small keeps few. (all_in_order p.symbols table p.formulas small well_formed keeps few).0

pub returns-clause-new : goal.returns-clause-new
returns-clause-new c = λ table p well_formed small keeps few. (all_in_order p.symbols table p.formulas small well_formed keeps few).1
