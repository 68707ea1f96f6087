-- What fits so far fits at the beginning, and there is room.
use Rattle.term_unifiers.specs.Arenas.{shapes_of}
use Rattle.term_unifiers.specs.Merging.{GoesOn, left_of, merging_of}
use Rattle.term_unifiers.specs.Rooms.{HasRoom}
use Rattle.term_unifiers.proofs.merging.merge.Given as goal

abbrev pub invariant-pairs : goal.invariant-pairs
invariant-pairs l = record {
  goes : GoesOn (shapes_of l.arena) (merging_of l.fn.work) (merging_of l.work);
  room : HasRoom (shapes_of l.arena) l.work;
}

abbrev pub decreases-pairs : goal.decreases-pairs
decreases-pairs l = left_of (shapes_of l.arena) (merging_of l.work)
