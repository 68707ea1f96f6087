-- The classes of a schema's arguments are there.
use Rattle.std.proofs.Common.{refl, arith, sym, subst}
use Rattle.fol_core.specs.Tree.{var, elem}
use Rattle.term_unifiers.specs.Classes.{Classes, class_terms}
use Rattle.term_unifiers.specs.Merging.{nth}
use Rattle.term_unifiers.specs.Shapes.{variable, element, application}
use Rattle.term_unifiers.specs.Shared.{IsHeld, id_at}
use Rattle.term_unifiers.specs.Solutions.{classes_in}
use Rattle.term_unifiers.proofs.Advances.{schema_read}
use Rattle.term_unifiers.proofs.Held.{child_in, class_applied, class_held, result_as, result_put}
use Rattle.term_unifiers.proofs.Orders.{argument_there, class_seen, inner_class}
use Rattle.term_unifiers.proofs.sharing.put_class.Goals as goal

pub index-requires : goal.index-requires
index-requires c =
    let within = c.requires.found.ordered.within c.args.root c.requires.root in
    omega (arith, within, c.requires.found.classes.schemed, c.args.found.now.work.schemas.ok.0)

pub view-requires-clause-within : goal.view-requires-clause-within
view-requires-clause-within c =
    (schema_read (classes_in c.args.found.now) c.args.root c.index.result.now c.requires.found.classes (c.requires.found.ordered.within c.args.root c.requires.root) c.index.ensures).1

pub index-requires-in-loop-argument : goal.index-requires-in-loop-argument
index-requires-in-loop-argument c =
    let inside = argument_there (classes_in c.args.found.now) c.args.found.now.order.items c.args.root c.index.result.now c.in-Application.f c.in-Application.arguments.now c.loop-argument.argument-index
    c.requires.found.classes c.requires.found.ordered c.requires.root c.index.ensures c.in-Application.ensures c.loop-argument-test.true in
    omega (arith, inside, c.args.found.now.work.links.ok.0)

pub bounds-ids-index : goal.bounds-ids-index
bounds-ids-index c =
    let inner = inner_class (classes_in c.args.found.now) c.args.found.now.order.items c.args.root c.index.result.now c.in-Application.f c.in-Application.arguments.now c.loop-argument.argument-index c.index-in-loop-argument.result.now
    c.requires.found.classes c.requires.found.ordered c.requires.root c.index.ensures c.in-Application.ensures c.loop-argument-test.true c.index-in-loop-argument.ensures in
    let within = c.requires.found.ordered.within c.index-in-loop-argument.result.now inner.there in
    omega (arith, within, c.requires.len)

pub offset_bounds-ids-index : goal.offset_bounds-ids-index
offset_bounds-ids-index c =
    let inner = inner_class (classes_in c.args.found.now) c.args.found.now.order.items c.args.root c.index.result.now c.in-Application.f c.in-Application.arguments.now c.loop-argument.argument-index c.index-in-loop-argument.result.now
    c.requires.found.classes c.requires.found.ordered c.requires.root c.index.ensures c.in-Application.ensures c.loop-argument-test.true c.index-in-loop-argument.ensures in
    let within = c.requires.found.ordered.within c.index-in-loop-argument.result.now inner.there in
    omega (arith, within, c.requires.len)

pub loop-argument-preserved : goal.loop-argument-preserved
loop-argument-preserved c =
    let classes : Classes = classes_in c.args.found.now in
    let inner = inner_class classes c.args.found.now.order.items c.args.root c.index.result.now c.in-Application.f c.in-Application.arguments.now c.loop-argument.argument-index c.index-in-loop-argument.result.now
    c.requires.found.classes c.requires.found.ordered c.requires.root c.index.ensures c.in-Application.ensures c.loop-argument-test.true c.index-in-loop-argument.ensures in
    class_held (λ k. class_terms classes var c.args.found.now.order.items (nth c.args.found.now.work.links.items k)) c.in-Application.arguments.now c.loop-argument.argument-index c.args.bank.now c.args.numbers.now c.loop-argument.terms.items c.push.new.self.items
    _ c.loop-argument-test.true c.in_ok-push-in-Application.ensures.items c.loop-argument.invariant
    (subst (λ n. IsHeld c.args.bank.now c.args.numbers.now (class_terms classes var c.args.found.now.order.items (nth c.args.found.now.work.links.items (nth c.in-Application.arguments.now c.loop-argument.argument-index))) (id_at c.args.ids.now n)) (sym inner.same)
    (c.requires.held (nth c.args.found.now.work.links.items (nth c.in-Application.arguments.now c.loop-argument.argument-index))
    (child_in classes c.args.root c.index.result.now c.in-Application.f c.in-Application.arguments.now c.loop-argument.argument-index c.requires.found.classes (c.requires.found.ordered.within c.args.root c.requires.root) c.index.ensures c.in-Application.ensures c.loop-argument-test.true)))

pub returns-in-Variable : goal.returns-in-Variable
returns-in-Variable c =
    result_as c.put_variable.result c.args.bank.now c.put_variable.new.bank c.args.numbers.now c.put_variable.new.numbers (var c.in-Variable.x) (class_terms (classes_in c.args.found.now) var c.args.found.now.order.items c.args.root)
    (class_seen (classes_in c.args.found.now) c.args.found.now.order.items c.args.root c.index.result.now (variable c.in-Variable.x) c.requires.found.classes c.requires.found.ordered c.requires.root c.index.ensures c.in-Variable.ensures)
    c.put_variable.ensures

pub returns-in-Element : goal.returns-in-Element
returns-in-Element c =
    result_as c.put.result c.args.bank.now c.put.new.self c.args.numbers.now c.args.numbers.now (elem c.in-Element.k) (class_terms (classes_in c.args.found.now) var c.args.found.now.order.items c.args.root)
    (class_seen (classes_in c.args.found.now) c.args.found.now.order.items c.args.root c.index.result.now (element c.in-Element.k) c.requires.found.classes c.requires.found.ordered c.requires.root c.index.ensures c.in-Element.ensures)
    (result_put c.put.result c.args.bank.now c.put.new.self c.args.numbers.now (elem c.in-Element.k) (λ s. refl) c.put.ensures.grows c.put.ensures.term)

pub returns-after-loop-argument : goal.returns-after-loop-argument
returns-after-loop-argument c =
    class_applied c.apply.result (λ k. class_terms (classes_in c.args.found.now) var c.args.found.now.order.items (nth c.args.found.now.work.links.items k)) c.in-Application.f c.in-Application.arguments.now c.loop-argument.argument-index c.args.bank.now c.apply.new.self c.args.numbers.now
    c.as_slice.result.now c.loop-argument.terms.items (class_terms (classes_in c.args.found.now) var c.args.found.now.order.items c.args.root) c.as_slice.ensures.value c.loop-argument.invariant c.loop-argument-test.false c.apply.ensures.grows c.apply.ensures.term
    (class_seen (classes_in c.args.found.now) c.args.found.now.order.items c.args.root c.index.result.now (application c.in-Application.f c.in-Application.arguments.now) c.requires.found.classes c.requires.found.ordered c.requires.root c.index.ensures c.in-Application.ensures)
