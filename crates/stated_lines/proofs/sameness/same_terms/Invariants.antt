-- The first arguments are the same.
use Rattle.std.proofs.Common.{◌≡◌, take}
use Rattle.fol_core.specs.TermView.{tree_list}
use Rattle.stated_lines.proofs.sameness.same_terms.Given as goal

abbrev pub invariant-loop-i : goal.invariant-loop-i
invariant-loop-i l = tree_list (take l.i l.ls) ≡ tree_list (take l.i l.rs)
