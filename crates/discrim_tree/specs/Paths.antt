-- The paths of terms: their steps from the left.
use Rattle.std.specs.Prelude.{List, [], ◌∷◌, ◌++◌, length}
use Rattle.fol_core.specs.Tree.{Tree, var, elem, app, Trees, none, more, list_of}
use Rattle.packed_terms.specs.declared.head.Head.{Head}
use Rattle.packed_terms.specs.declared.head.Head.TheVariants as head
use Rattle.discrim_tree.specs.declared.edge.Edge.{Edge}
use Rattle.discrim_tree.specs.declared.edge.Edge.TheVariants.{Any, Element, Symbol}

-- the first step of a term
abbrev pub step_of : Tree → Edge
step_of (var x) = Any
step_of (elem k) = Element k
step_of (app f ts) = Symbol f (length (list_of ts))

abbrev pub arguments : Tree → List Tree
arguments (var x) = []
arguments (elem k) = []
arguments (app f ts) = list_of ts

-- a term's path
abbrev mutual
  pub path_of : Tree → List Edge
  path_of (var x) = Any ∷ []
  path_of (elem k) = Element k ∷ []
  path_of (app f ts) = Symbol f (length (list_of ts)) ∷ paths_of ts

  pub paths_of : Trees → List Edge
  paths_of none = []
  paths_of (more t ts) = path_of t ++ paths_of ts

-- the paths of several terms, one behind the other
abbrev pub steps_of : List Tree → List Edge
steps_of [] = []
steps_of (t ∷ ts) = path_of t ++ steps_of ts

-- the step of what stands at a node
abbrev pub edge_of : Head → Edge
edge_of (head.Variable x) = Any
edge_of (head.Element k) = Element k
edge_of (head.Symbol f n) = Symbol f n
