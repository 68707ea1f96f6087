-- The first literals are the same.
use Rattle.std.proofs.Common.{◌≡◌, take, map}
use Rattle.fol_core.specs.ClauseView.{literal_of}
use Rattle.substitutions.proofs.sameness.same_clause.Given as goal

abbrev pub invariant-loop-i : goal.invariant-loop-i
invariant-loop-i l = map literal_of (take l.i l.l-items) ≡ map literal_of (take l.i l.right-inside.literals.items)
