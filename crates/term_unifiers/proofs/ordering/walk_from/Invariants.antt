-- What was in the order is there, the class was looked at, and there is room.
use Rattle.std.proofs.Common.{◌≡◌, ℕ}
use Rattle.term_unifiers.specs.Arenas.{shapes_of}
use Rattle.term_unifiers.specs.Classes.{In, classes_of}
use Rattle.term_unifiers.specs.Merging.{merging_of}
use Rattle.term_unifiers.specs.Rooms.{HasPlaces}
use Rattle.term_unifiers.specs.Walking.{IsWalk, mark_at, walk_left}
use Rattle.term_unifiers.specs.declared.walk.Mark.TheVariants.{New}
use Rattle.term_unifiers.proofs.ordering.walk_from.Given as goal

abbrev pub invariant-walk : goal.invariant-walk
invariant-walk l = record {
  walk : IsWalk (classes_of (shapes_of l.arena) (merging_of l.work)) l.walk.marks.items l.walk.order.items l.walk.frames.items;
  kept : (r : ℕ) → In r l.fn.walk.order.items → In r l.walk.order.items;
  places : HasPlaces 0 l.walk;
  marked : mark_at l.walk.marks.items l.root ≡ New → ⊥;
}

abbrev pub decreases-walk : goal.decreases-walk
decreases-walk l = walk_left (classes_of (shapes_of l.arena) (merging_of l.work)) l.walk.marks.items l.walk.frames.items
