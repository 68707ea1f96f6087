-- The arguments from here on decide.
use Rattle.std.proofs.Common.{◌≡◌}
use Rattle.clause_index.proofs.TermTests.{terms_from}
use Rattle.discrim_tree.specs.Seeking.{passes}
use Rattle.fol_core.specs.TermView.{tree_of}
use Rattle.clause_index.proofs.parts.+has_term.Given as goal

abbrev pub invariant-loop-term : goal.invariant-loop-term
invariant-loop-term l = terms_from (passes l.sought (tree_of l.t)) l.term-items 0 ≡ terms_from (passes l.sought (tree_of l.t)) l.term-items l.term-index
