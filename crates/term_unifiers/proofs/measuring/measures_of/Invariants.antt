-- The first classes are measured.
use Rattle.std.proofs.Common.{length, take}
use Rattle.fol_core.specs.Tree.{var}
use Rattle.term_unifiers.specs.Arenas.{shapes_of}
use Rattle.term_unifiers.specs.Classes.{class_terms, classes_of}
use Rattle.term_unifiers.specs.Merging.{merging_of}
use Rattle.term_unifiers.proofs.Orders.{MeasuredSoFar}
use Rattle.term_unifiers.proofs.measuring.measures_of.Given as goal

abbrev pub invariant-loop-root : goal.invariant-loop-root
invariant-loop-root l =
    MeasuredSoFar (class_terms (classes_of (shapes_of l.arena) (merging_of l.work)) var l.order.items) (take l.root-index l.order.items) (length (shapes_of l.arena)) l.measures.items
