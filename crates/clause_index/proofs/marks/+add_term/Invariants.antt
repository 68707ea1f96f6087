-- The marks of the arguments from here on are left.
use Rattle.std.proofs.Common.{◌≡◌, ◌++◌}
use Rattle.clause_index.specs.Marks.{term_marks}
use Rattle.fol_core.specs.TermView.{tree_of}
use Rattle.clause_index.proofs.MarkSteps.{terms_from}
use Rattle.clause_index.proofs.marks.+add_term.Given as goal

abbrev pub invariant-loop-i : goal.invariant-loop-i
invariant-loop-i l = l.marks.items ++ terms_from l.mark l.term-items l.i ≡ l.fn.marks.items ++ term_marks l.place (tree_of l.t)
