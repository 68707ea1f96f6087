-- The first arguments are put in.
use Rattle.std.proofs.Common.{take}
use Rattle.fol_core.specs.TermView.{tree_of}
use Rattle.fol_core.specs.Tree.{nodes}
use Rattle.shared_clauses.specs.Bound.{bound_in}
use Rattle.shared_clauses.proofs.UsedSteps.{used_with}
use Rattle.shared_clauses.proofs.PutSteps.{AreArguments}
use Rattle.shared_clauses.proofs.using.+used_term.Given as goal

abbrev pub decreases-used_term : goal.decreases-used_term
decreases-used_term l = nodes (tree_of l.term.now)

abbrev pub invariant-loop-term : goal.invariant-loop-term
invariant-loop-term l = AreArguments (used_with (tree_of l.general) l.fresh (bound_in l.fn.bank l.bindings)) l.fn.bank l.bank (take l.term-index l.term-items) l.made.items
