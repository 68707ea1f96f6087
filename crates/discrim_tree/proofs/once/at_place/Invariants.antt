-- The rest of the way leads on from here.
use Rattle.std.proofs.Common.{◌≡◌}
use Rattle.fol_core.specs.TermView.{tree_of}
use Rattle.discrim_tree.specs.Places.{at_place}
use Rattle.discrim_tree.proofs.once.at_place.Given as goal

abbrev pub invariant-loop-rest : goal.invariant-loop-rest
invariant-loop-rest l = at_place (tree_of l.here) l.rest ≡ at_place (tree_of l.t) l.place

abbrev pub decreases-loop-rest : goal.decreases-loop-rest
decreases-loop-rest l = l.rest
