-- The first arguments are written; each is a smaller term.
use Rattle.std.proofs.Common.{map, take}
use Rattle.fol_core.specs.Tree.{nodes, var}
use Rattle.term_unifiers.specs.Classes.{class_terms}
use Rattle.term_unifiers.specs.Merging.{nth}
use Rattle.term_unifiers.specs.Solutions.{classes_in}
use Rattle.term_unifiers.specs.Written.{AreWritten}
use Rattle.term_unifiers.proofs.writing.+write_class.Given as goal

abbrev pub decreases-write_class : goal.decreases-write_class
decreases-write_class l = nodes (class_terms (classes_in l.found.now) var l.found.now.order.items l.root)

abbrev pub invariant-loop-argument : goal.invariant-loop-argument
invariant-loop-argument l = AreWritten l.fn.numbers l.numbers (map (λ k. class_terms (classes_in l.found) var l.found.order.items (nth l.found.work.links.items k)) (take l.argument-index l.arguments)) l.terms
