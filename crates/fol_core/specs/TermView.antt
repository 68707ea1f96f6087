-- The tree of a term of the code.
use Rattle.std.specs.Prelude.{List, map}
use Rattle.fol_core.specs.Tree.{Tree, var, elem, app, trees_of}
use Rattle.fol_core.specs.declared.term.Term.{Term}
use Rattle.fol_core.specs.declared.term.Term.TheVariants.{Var, Elem, App}

abbrev pub tree_of : Term → Tree
tree_of (Var x) = var x
tree_of (Elem k) = elem k
tree_of (App s ts) = app s.0 (trees_of ts)

-- and of each term of a list
abbrev pub tree_list : List Term → List Tree
tree_list ts = map tree_of ts
