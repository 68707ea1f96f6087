-- The rest of the path leads on from here.
use Rattle.std.proofs.Common.{◌≡◌, drop}
use Rattle.fol_core.specs.TermView.{tree_of}
use Rattle.substitutions.specs.Paths.{subterm_at}
use Rattle.substitutions.proofs.paths.subterm_at.Given as goal

abbrev pub invariant-loop-number : goal.invariant-loop-number
invariant-loop-number l = subterm_at (tree_of l.here) (drop l.number-index l.path) ≡ subterm_at (tree_of l.term) l.path
