-- An argument is smaller than all of them together. No rule fits in the arguments before, and none in the terms that are known.
use Rattle.std.proofs.Common.{◌+◌, ◌≤◌, take}
use Rattle.fol_core.specs.Tree.{nodes, nodes_of, trees_of}
use Rattle.fol_core.specs.TermView.{tree_of}
use Rattle.clause_index.specs.Normal.{HaveNoStep}
use Rattle.demodulate.proofs.Redexes.{AreNormal}
use Rattle.demodulate.proofs.rewriting.+first_step.Given as goal

abbrev pub decreases-first_step : goal.decreases-first_step
decreases-first_step l = nodes (tree_of l.term.now)

abbrev pub decreases-step_within : goal.decreases-step_within
decreases-step_within l = nodes_of (trees_of l.terms.now) + 1

abbrev pub invariant-step_within-loop-i : goal.invariant-step_within-loop-i
invariant-step_within-loop-i l = record {
  normal : AreNormal l.rules (take l.i l.term-items);
  known : HaveNoStep l.rules l.known;
  on : l.fn.tries ≤ l.tries;
}
