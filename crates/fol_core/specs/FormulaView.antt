-- The tree of a formula of the code.
use Rattle.fol_core.specs.Tree.{trees_of}
use Rattle.fol_core.specs.Fol.{Fol, verum, falsum, equal, atom, negation, conjunction, disjunction, implication, equivalence, forall, exists}
use Rattle.fol_core.specs.declared.formula.Shape.{Shape}
use Rattle.fol_core.specs.declared.formula.Shape.TheVariants.{True, False, Eq, Atom, Not, And, Or, If, Iff, All, Exists}

abbrev pub fol_of : Shape → Fol
fol_of True = verum
fol_of False = falsum
fol_of (Eq sides) = equal sides.0 sides.1
fol_of (Atom r ts) = atom r.0 (trees_of ts)
fol_of (Not f) = negation f
fol_of (And f g) = conjunction f g
fol_of (Or f g) = disjunction f g
fol_of (If f g) = implication f g
fol_of (Iff f g) = equivalence f g
fol_of (All x f) = forall x f
fol_of (Exists x f) = exists x f
