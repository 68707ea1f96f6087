-- Formulas as plain trees.
use Rattle.std.specs.Prelude.{ℕ, ◌+◌}
use Rattle.fol_core.specs.Tree.{Tree, Trees}

-- the two constants, equations, relations, connectives, and quantifiers with the number of their
-- variable
pub data Fol : Type 0 where
  verum : Fol
  falsum : Fol
  equal : Tree → Tree → Fol
  atom : ℕ → Trees → Fol
  negation : Fol → Fol
  conjunction : Fol → Fol → Fol
  disjunction : Fol → Fol → Fol
  implication : Fol → Fol → Fol
  equivalence : Fol → Fol → Fol
  forall : ℕ → Fol → Fol
  exists : ℕ → Fol → Fol

-- a measure that grows with each level
abbrev pub folds : Fol → ℕ
folds verum = 1
folds falsum = 1
folds (equal s t) = 1
folds (atom r ts) = 1
folds (negation f) = folds f + 2
folds (conjunction f g) = folds f + folds g + 2
folds (disjunction f g) = folds f + folds g + 2
folds (implication f g) = folds f + folds g + 2
folds (equivalence f g) = folds f + folds g + 2
folds (forall x f) = folds f + 2
folds (exists x f) = folds f + 2
