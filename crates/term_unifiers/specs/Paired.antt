-- Nodes of terms that are to be made the same, before room is taken for that.
use Rattle.std.specs.List.{zip}
use Rattle.std.specs.Prelude.{◌≡◌, List, [], ◌∷◌, ◌++◌, length, map}
use Rattle.fol_core.specs.Tree.{Tree}
use Rattle.term_unifiers.specs.Arenas.{IsArena, shapes_of}
use Rattle.term_unifiers.specs.Shapes.{AreBelow, tree_at}
use Rattle.term_unifiers.specs.declared.paired.Paired.{Paired}

-- the terms of both sides
abbrev pub first_terms : Paired → List Tree
first_terms p = map (tree_at (shapes_of p.arena)) p.lefts.items

abbrev pub second_terms : Paired → List Tree
second_terms p = map (tree_at (shapes_of p.arena)) p.rights.items

pub record ArePaired (p : Paired) : Type 0 where
  pub arena : IsArena p.arena
  pub lefts : AreBelow (length (shapes_of p.arena)) p.lefts.items
  pub rights : AreBelow (length (shapes_of p.arena)) p.rights.items

-- as many on both sides
pub record AreEven (p : Paired) : Type 0 where
  pub paired : ArePaired p
  pub even : length p.lefts.items ≡ length p.rights.items

-- the terms of each pair
abbrev pub pairs_in : Paired → List (Tree × Tree)
pairs_in p = zip (first_terms p) (second_terms p)

-- with one pair more
pub record HasOneMore (p q : Paired) (s t : Tree) : Type 0 where
  pub even : AreEven q
  pub pairs : pairs_in q ≡ pairs_in p ++ (s, t) ∷ []
