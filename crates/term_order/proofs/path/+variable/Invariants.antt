-- An argument has a smaller number; the terms from here on decide.
use Rattle.std.proofs.Common.{◌≡◌}
use Rattle.fol_core.specs.Tree.{trees_of}
use Rattle.substitutions.specs.Occurring.{have_variable}
use Rattle.term_order.proofs.Walks.{terms_from}
use Rattle.term_order.proofs.path.+variable.Given as goal

abbrev pub decreases-has_variable : goal.decreases-has_variable
decreases-has_variable l = l.t.0

abbrev pub invariant-loop-t : goal.invariant-loop-t
invariant-loop-t l = have_variable l.x (trees_of (terms_from l.bank l.ts 0)) ≡ have_variable l.x (trees_of (terms_from l.bank l.ts l.t-index))
