-- Nodes of terms that are to be made the same, before any are merged, with room for all that follows.
use Rattle.std.specs.Prelude.{◌≡◌, List, length, map}
use Rattle.fol_core.specs.Tree.{Tree}
use Rattle.term_unifiers.specs.Arenas.{IsArena, shapes_of}
use Rattle.term_unifiers.specs.Merging.{CountsUp}
use Rattle.term_unifiers.specs.Rooms.{HasRoom, IsUnstarted}
use Rattle.term_unifiers.specs.Shapes.{AreBelow, tree_at}
use Rattle.term_unifiers.specs.declared.entered.Entered.{Entered}

-- the terms of both sides
abbrev pub left_terms : Entered → List Tree
left_terms e = map (tree_at (shapes_of e.arena)) e.work.lefts.items

abbrev pub right_terms : Entered → List Tree
right_terms e = map (tree_at (shapes_of e.arena)) e.work.rights.items

pub record IsEntered (e : Entered) : Type 0 where
  pub arena : IsArena e.arena
  pub lefts : AreBelow (length (shapes_of e.arena)) e.work.lefts.items
  pub rights : AreBelow (length (shapes_of e.arena)) e.work.rights.items
  pub links : CountsUp e.work.links.items (length (shapes_of e.arena))
  pub schemas : CountsUp e.work.schemas.items (length (shapes_of e.arena))
  pub room : length e.work.lefts.items ≡ length e.work.rights.items → HasRoom (shapes_of e.arena) e.work
  pub walk : IsUnstarted (length (shapes_of e.arena)) e.walk
