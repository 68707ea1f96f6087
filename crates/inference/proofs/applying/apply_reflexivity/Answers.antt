-- The sides are those of the atom there.
use Rattle.std.proofs.Common.{subst}
use Rattle.derivation.specs.Sides.{AreSides}
use Rattle.fol_core.specs.TermView.{tree_of}
use Rattle.inference.proofs.applying.apply_reflexivity.Goals as goal

pub reflexivity_there-requires-clause-sides : goal.reflexivity_there-requires-clause-sides
reflexivity_there-requires-clause-sides c = subst (λ t. AreSides t (tree_of c.in-Some.s.now) (tree_of c.in-Some.t.now)) c.atom.ensures c.in-Some.ensures.cases
