-- Atoms: a variable or an element is none.
use Rattle.std.specs.Prelude.{[], ◌∷◌}
use Rattle.fol_core.specs.Literals.{ClauseTree}
use Rattle.fol_core.specs.Tree.{Tree, app}

abbrev pub IsAtom : Tree → Type 0
IsAtom (app r ts) = Unit {0}
IsAtom t = ⊥

abbrev pub AreAtoms : ClauseTree → Type 0
AreAtoms [] = Unit {0}
AreAtoms (l ∷ c) = IsAtom l.atom × AreAtoms c
