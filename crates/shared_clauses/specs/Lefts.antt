-- The terms of what a rule leaves: atoms, and what is put into them.
use Rattle.std.specs.Prelude.{Option, Some, None}
use Rattle.fol_core.specs.Substitutions.{substitute}
use Rattle.fol_core.specs.TermView.{tree_of}
use Rattle.fol_core.specs.Tree.{Tree}
use Rattle.inference.specs.declared.left.Change.{Change}
use Rattle.inference.specs.declared.left.Left.{Left}
use Rattle.substitutions.specs.Apart.{Own}

-- the atom of a literal in its parent's instance
abbrev pub whole_atom : Own → Left → Tree
whole_atom own l = substitute (own l.parent) (tree_of l.literal.now.atom)

-- what is put into it; where nothing is, the atom once more
abbrev pub part_by : Own → Left → Option Change → Tree
part_by own l None = whole_atom own l
part_by own l (Some c) = substitute (own c.parent) (tree_of c.term.now)

abbrev pub part_atom : Own → Left → Tree
part_atom own l = part_by own l l.change
