-- The arguments from here on decide.
use Rattle.std.proofs.Common.{◌≡◌}
use Rattle.fol_core.specs.TermView.{tree_of}
use Rattle.held_clauses.proofs.Variables.{has_from}
use Rattle.held_clauses.proofs.order.+has_each_of.Given as goal

abbrev pub invariant-loop-term : goal.invariant-loop-term
invariant-loop-term l = has_from (tree_of l.s) l.term-items 0 ≡ has_from (tree_of l.s) l.term-items l.term-index
