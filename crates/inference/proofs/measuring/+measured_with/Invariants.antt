-- The first arguments are measured, the one of the number with another term in it.
use Rattle.std.proofs.Common.{◌≡◌}
use Rattle.clause_limits.specs.Sizes.{measured_all}
use Rattle.fol_core.specs.Substitutions.{substitute}
use Rattle.fol_core.specs.TermView.{tree_of}
use Rattle.fol_core.specs.Tree.{trees_of}
use Rattle.substitutions.specs.Bindings.{by_bindings}
use Rattle.inference.proofs.Changed.{changed_so_far}
use Rattle.term_unifiers.specs.Renamed.{own_among}
use Rattle.inference.proofs.measuring.+measured_with.Given as goal

abbrev pub invariant-loop-i : goal.invariant-loop-i
invariant-loop-i l =
    let own = own_among l.many (by_bindings l.unifier) in
    l.parts ≡ measured_all (trees_of (changed_so_far (own l.parent) l.rest (substitute (own l.change.parent) (tree_of l.change.term.now)) l.part-items l.i l.number))
