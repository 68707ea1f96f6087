-- What stands at the nodes of a term, from the left.
use Rattle.std.specs.Prelude.{List, [], ◌∷◌, ◌++◌, length}
use Rattle.fol_core.specs.Tree.{Tree, var, elem, app, Trees, none, more, list_of}
use Rattle.packed_terms.specs.declared.head.Head.{Head}
use Rattle.packed_terms.specs.declared.head.Head.TheVariants.{Variable, Element, Symbol}

-- at the root
abbrev pub first_head : Tree → Head
first_head (var x) = Variable x
first_head (elem k) = Element k
first_head (app f ts) = Symbol f (length (list_of ts))

abbrev mutual
  pub heads : Tree → List Head
  heads (var x) = Variable x ∷ []
  heads (elem k) = Element k ∷ []
  heads (app f ts) = Symbol f (length (list_of ts)) ∷ all_heads ts

  -- and at those of several terms, one behind the other
  pub all_heads : Trees → List Head
  all_heads none = []
  all_heads (more t ts) = heads t ++ all_heads ts
