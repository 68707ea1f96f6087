-- The terms of the first classes are there.
use Rattle.std.proofs.Common.{length, take}
use Rattle.fol_core.specs.Tree.{var}
use Rattle.term_unifiers.specs.Arenas.{shapes_of}
use Rattle.term_unifiers.specs.Classes.{class_terms}
use Rattle.term_unifiers.specs.Shared.{AllHeld}
use Rattle.term_unifiers.specs.Solutions.{classes_in}
use Rattle.term_unifiers.proofs.sharing.put_classes.Given as goal

abbrev pub invariant-loop-root : goal.invariant-loop-root
invariant-loop-root l = AllHeld (class_terms (classes_in l.found) var l.found.order.items) (take l.root-index l.found.order.items) (length (shapes_of l.found.arena)) l.bank l.numbers l.ids.items
