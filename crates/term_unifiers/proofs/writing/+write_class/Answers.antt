-- An argument more, whose class has a smaller term.
use Rattle.std.proofs.Common.{◌∙◌, ℕ, List, ap, map, subst, arith}
use Rattle.std.proofs.lemmas.List.{take_all}
use Rattle.fol_core.specs.TermView.{tree_of}
use Rattle.fol_core.specs.Tree.{app, elem, trees_of, var}
use Rattle.term_unifiers.specs.Classes.{Classes, class_terms}
use Rattle.term_unifiers.specs.Merging.{nth}
use Rattle.term_unifiers.specs.Shapes.{variable, element, application}
use Rattle.term_unifiers.specs.Solutions.{classes_in}
use Rattle.term_unifiers.specs.Written.{IsWritten}
use Rattle.term_unifiers.proofs.Advances.{schema_read}
use Rattle.term_unifiers.proofs.Orders.{argument_there, class_seen, inner_class}
use Rattle.term_unifiers.proofs.Written.{application_written, class_next, element_written, written_as}
use Rattle.term_unifiers.proofs.writing.+write_class.Goals as goal

pub index-requires : goal.index-requires
index-requires t c =
    let within = c.requires.found.ordered.within c.args.root c.requires.root in
    omega (arith, within, c.requires.found.classes.schemed, c.args.found.now.work.schemas.ok.0)

pub view-requires-clause-within : goal.view-requires-clause-within
view-requires-clause-within t c =
    (schema_read (classes_in c.args.found.now) c.args.root c.index.result.now c.requires.found.classes (c.requires.found.ordered.within c.args.root c.requires.root) c.index.ensures).1

pub index-child-requires : goal.index-child-requires
index-child-requires t c =
    let inside = argument_there (classes_in c.args.found.now) c.args.found.now.order.items c.args.root c.index.result.now c.in-Application.f c.in-Application.arguments.now c.loop-argument.argument-index
    c.requires.found.classes c.requires.found.ordered c.requires.root c.index.ensures c.in-Application.ensures c.loop-argument-test.true in
    omega (arith, inside, c.args.found.now.work.links.ok.0)

pub write_class-requires : goal.write_class-requires
write_class-requires t c =
    let inner = inner_class (classes_in c.args.found.now) c.args.found.now.order.items c.args.root c.index.result.now c.in-Application.f c.in-Application.arguments.now c.loop-argument.argument-index c.index-child.result.now
    c.requires.found.classes c.requires.found.ordered c.requires.root c.index.ensures c.in-Application.ensures c.loop-argument-test.true c.index-child.ensures in
    let less = inner.less in
    (omega (arith, less, c.decreases), (c.requires.found, inner.there))

pub loop-argument-preserved : goal.loop-argument-preserved
loop-argument-preserved t c =
    let classes : Classes = classes_in c.args.found.now in
    let inner = inner_class classes c.args.found.now.order.items c.args.root c.index.result.now c.in-Application.f c.in-Application.arguments.now c.loop-argument.argument-index c.index-child.result.now
    c.requires.found.classes c.requires.found.ordered c.requires.root c.index.ensures c.in-Application.ensures c.loop-argument-test.true c.index-child.ensures in
    class_next (λ k. class_terms classes var c.args.found.now.order.items (nth c.args.found.now.work.links.items k)) c.in-Application.arguments.now c.loop-argument.argument-index c.args.numbers.now c.loop-argument.numbers c.write_class.new.numbers c.loop-argument.terms c.push.new.self
    (tree_of c.in_ok-write_class-in-Application.field-0) c.loop-argument-test.true c.in_ok-push-in-Application.ensures.ok c.loop-argument.invariant
    (subst (λ n. IsWritten c.loop-argument.numbers c.write_class.new.numbers (class_terms classes var c.args.found.now.order.items n) (tree_of c.in_ok-write_class-in-Application.field-0)) inner.same c.in_ok-write_class-in-Application.ensures)

pub returns-in-Variable : goal.returns-in-Variable
returns-in-Variable t c =
    written_as c.numbered.result c.args.numbers.now c.numbered.new.numbers (var c.in-Variable.x) (class_terms (classes_in c.args.found.now) var c.args.found.now.order.items c.args.root)
    (class_seen (classes_in c.args.found.now) c.args.found.now.order.items c.args.root c.index.result.now (variable c.in-Variable.x) c.requires.found.classes c.requires.found.ordered c.requires.root c.index.ensures c.in-Variable.ensures)
    c.numbered.ensures

pub returns-in-Element : goal.returns-in-Element
returns-in-Element t c =
    let own = class_seen (classes_in c.args.found.now) c.args.found.now.order.items c.args.root c.index.result.now (element c.in-Element.k) c.requires.found.classes c.requires.found.ordered c.requires.root c.index.ensures c.in-Element.ensures in
    subst (λ u. IsWritten c.args.numbers.now c.args.numbers.now u (elem c.in-Element.k)) own (element_written c.args.numbers.now c.in-Element.k)

pub returns-after-loop-argument : goal.returns-after-loop-argument
returns-after-loop-argument t c =
    let classes : Classes = classes_in c.args.found.now in
    subst (λ u. IsWritten c.args.numbers.now c.loop-argument.numbers u (app c.in-Application.f (trees_of c.loop-argument.terms)))
    (ap (λ (l : List ℕ). app c.in-Application.f (trees_of (map (λ k. class_terms classes var c.args.found.now.order.items (nth c.args.found.now.work.links.items k)) l))) (take_all c.loop-argument.argument-index c.in-Application.arguments.now c.loop-argument-test.false)
    ∙ class_seen classes c.args.found.now.order.items c.args.root c.index.result.now (application c.in-Application.f c.in-Application.arguments.now) c.requires.found.classes c.requires.found.ordered c.requires.root c.index.ensures c.in-Application.ensures)
    (application_written c.args.numbers.now c.loop-argument.numbers c.in-Application.f _ c.loop-argument.terms c.loop-argument.invariant)
