-- The copies so far are the first terms.
use Rattle.std.proofs.Common.{◌≡◌, take}
use Rattle.fol_core.specs.TermView.{tree_list}
use Rattle.fol_core.proofs.term.Term.+copy.Given as goal

abbrev pub invariant-loop-term : goal.invariant-loop-term
invariant-loop-term l = l.copies ≡ tree_list (take l.term-index l.term-items)
