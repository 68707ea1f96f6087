-- The classes of the first nodes are in the order, and there is room.
use Rattle.std.proofs.Common.{ℕ, ◌<◌}
use Rattle.term_unifiers.specs.Arenas.{shapes_of}
use Rattle.term_unifiers.specs.Classes.{In, classes_of}
use Rattle.term_unifiers.specs.Merging.{merging_of, nth}
use Rattle.term_unifiers.specs.Rooms.{HasPlaces}
use Rattle.term_unifiers.specs.Walking.{Rests}
use Rattle.term_unifiers.proofs.ordering.order_of.Given as goal

abbrev pub invariant-loop-n : goal.invariant-loop-n
invariant-loop-n l = record {
  rests : Rests (classes_of (shapes_of l.arena) (merging_of l.work)) l.walk;
  places : HasPlaces 0 l.walk;
  there : (k : ℕ) → k < l.n → In (nth l.work.links.items k) l.walk.order.items;
}
