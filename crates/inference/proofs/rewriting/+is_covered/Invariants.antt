-- The terms from here on decide.
use Rattle.std.proofs.Common.{◌≡◌}
use Rattle.fol_core.specs.TermView.{tree_of}
use Rattle.inference.proofs.CoverSteps.{covered_from}
use Rattle.inference.proofs.rewriting.+is_covered.Given as goal

abbrev pub invariant-loop-term : goal.invariant-loop-term
invariant-loop-term l = covered_from (tree_of l.left) l.term-items 0 ≡ covered_from (tree_of l.left) l.term-items l.term-index
