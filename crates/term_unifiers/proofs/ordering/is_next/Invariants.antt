-- The first arguments' classes are in the order.
use Rattle.term_unifiers.specs.Arenas.{shapes_of}
use Rattle.term_unifiers.specs.Classes.{classes_of}
use Rattle.term_unifiers.specs.Merging.{merging_of}
use Rattle.term_unifiers.proofs.AtOnce.{AreIn}
use Rattle.term_unifiers.proofs.ordering.is_next.Given as goal

abbrev pub invariant-loop-argument : goal.invariant-loop-argument
invariant-loop-argument l = AreIn (classes_of (shapes_of l.arena) (merging_of l.work)) l.walk.order.items l.root l.argument-index
