-- The terms of the first arguments' classes are there.
use Rattle.std.proofs.Common.{map, take}
use Rattle.fol_core.specs.Tree.{var}
use Rattle.term_unifiers.specs.Classes.{class_terms}
use Rattle.term_unifiers.specs.Merging.{nth}
use Rattle.term_unifiers.specs.Shared.{AreHeld, numbers_of}
use Rattle.term_unifiers.specs.Solutions.{classes_in}
use Rattle.term_unifiers.proofs.sharing.put_class.Given as goal

abbrev pub invariant-loop-argument : goal.invariant-loop-argument
invariant-loop-argument l = AreHeld l.bank l.numbers (map (λ k. class_terms (classes_in l.found) var l.found.order.items (nth l.found.work.links.items k)) (take l.argument-index l.arguments)) (numbers_of l.terms.items)
