-- The first arguments are written, the one of the number with another term in it.
use Rattle.fol_core.specs.Substitutions.{substitute}
use Rattle.fol_core.specs.TermView.{tree_of}
use Rattle.substitutions.specs.Bindings.{by_bindings}
use Rattle.inference.proofs.Changed.{changed_so_far}
use Rattle.term_unifiers.specs.Renamed.{own_among}
use Rattle.term_unifiers.specs.Written.{AreWritten}
use Rattle.inference.proofs.building.+written_with.Given as goal

abbrev pub decreases-written_with : goal.decreases-written_with
decreases-written_with l = goal.size-written_with l

abbrev pub invariant-loop-i : goal.invariant-loop-i
invariant-loop-i l =
    let own = own_among l.many (by_bindings l.unifier) in
    AreWritten l.fn.numbers l.numbers (changed_so_far (own l.parent) l.rest (substitute (own l.change.parent) (tree_of l.change.term.now)) l.part-items l.i l.number) l.made
