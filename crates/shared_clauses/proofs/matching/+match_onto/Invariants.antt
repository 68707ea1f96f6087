-- The arguments left decide.
use Rattle.std.proofs.Common.{◌≡◌, length}
use Rattle.fol_core.specs.TermView.{tree_of}
use Rattle.fol_core.specs.Tree.{nodes}
use Rattle.shared_clauses.specs.Bound.{AreBoundBelow, bound_in}
use Rattle.shared_clauses.proofs.BoundSteps.{match_rest}
use Rattle.shared_clauses.proofs.matching.+match_onto.Given as goal

abbrev pub decreases-match_onto : goal.decreases-match_onto
decreases-match_onto l = nodes (tree_of l.general.now)

abbrev pub invariant-loop-i : goal.invariant-loop-i
invariant-loop-i l = record {
  rest : match_rest l.bank l.term-items l.arguments l.i (bound_in l.bank l.bindings.items) ≡ match_rest l.bank l.term-items l.arguments 0 (bound_in l.bank l.fn.bindings.items);
  below : AreBoundBelow (length l.bank) l.bindings.items;
}
