-- The first arguments are put in.
use Rattle.std.proofs.Common.{take}
use Rattle.fol_core.specs.TermView.{tree_of}
use Rattle.fol_core.specs.Tree.{nodes}
use Rattle.shared_clauses.specs.Bound.{bound_in}
use Rattle.substitutions.specs.Bindings.{by_bindings}
use Rattle.shared_clauses.proofs.PutSteps.{AreArguments}
use Rattle.shared_clauses.proofs.putting.+put_with.Given as goal

abbrev pub decreases-put_with : goal.decreases-put_with
decreases-put_with l = nodes (tree_of l.term.now)

abbrev pub invariant-loop-term : goal.invariant-loop-term
invariant-loop-term l = AreArguments (by_bindings (bound_in l.fn.bank l.bindings)) l.fn.bank l.bank (take l.term-index l.term-items) l.made.items
