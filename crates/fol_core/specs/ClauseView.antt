-- The plain forms of literals of the code.
use Rattle.fol_core.specs.Literals.{Lit, literal}
use Rattle.fol_core.specs.TermView.{tree_of}
use Rattle.fol_core.specs.declared.clause.Literal.{Literal}

abbrev pub literal_of : Literal → Lit
literal_of l = literal l.positive (tree_of l.atom)
