-- A class more, behind those that it leads to.
use Rattle.std.proofs.Common.{◌<◌, List, length, take, arith, sym, ap, subst}
use Rattle.fol_core.specs.Tree.{var}
use Rattle.term_bank.specs.declared.id.TermId.{TermId}
use Rattle.term_unifiers.specs.Arenas.{shapes_of}
use Rattle.term_unifiers.specs.Classes.{In, class_terms}
use Rattle.term_unifiers.specs.Merging.{nth}
use Rattle.term_unifiers.specs.Shared.{AllHeld}
use Rattle.term_unifiers.specs.Solutions.{classes_in}
use Rattle.term_unifiers.proofs.Held.{children_held, held_next}
use Rattle.term_unifiers.proofs.Orders.{in_order}
use Rattle.term_unifiers.proofs.sharing.put_classes.Goals as goal

pub put_class-requires-clause-root : goal.put_class-requires-clause-root
put_class-requires-clause-root c =
    let there : c.loop-root.root-index < length c.args.found.now.order.items = subst (λ l. c.loop-root.root-index < length l) c.deref-root-items.ensures.value c.loop-root-test.true in
    subst (λ l. In (nth l c.loop-root.root-index) c.args.found.now.order.items) (sym c.deref-root-items.ensures.value) (in_order c.args.found.now.order.items c.loop-root.root-index 0 there)

pub put_class-requires-clause-held : goal.put_class-requires-clause-held
put_class-requires-clause-held c =
    let there : c.loop-root.root-index < length c.args.found.now.order.items = subst (λ l. c.loop-root.root-index < length l) c.deref-root-items.ensures.value c.loop-root-test.true in
    children_held (classes_in c.args.found.now) (class_terms (classes_in c.args.found.now) var c.args.found.now.order.items) c.args.found.now.order.items c.loop-root.root-index (nth c.deref-root-items.result.now c.loop-root.root-index) (length (shapes_of c.args.found.now.arena)) c.loop-root.bank c.loop-root.numbers c.as_slice.result.now
    c.requires.ordered.order there (ap (λ l. nth l c.loop-root.root-index) c.deref-root-items.ensures.value)
    (subst (λ (x : List TermId). AllHeld (class_terms (classes_in c.args.found.now) var c.args.found.now.order.items) (take c.loop-root.root-index c.args.found.now.order.items) (length (shapes_of c.args.found.now.arena)) c.loop-root.bank c.loop-root.numbers x) (sym c.as_slice.ensures.value) c.loop-root.invariant)

pub index_mut-requires : goal.index_mut-requires
index_mut-requires c =
    let there : c.loop-root.root-index < length c.args.found.now.order.items = subst (λ l. c.loop-root.root-index < length l) c.deref-root-items.ensures.value c.loop-root-test.true in
    let inside : nth c.deref-root-items.result.now c.loop-root.root-index < length (shapes_of c.args.found.now.arena) =
    subst (λ l. nth l c.loop-root.root-index < length (shapes_of c.args.found.now.arena)) (sym c.deref-root-items.ensures.value) (c.requires.ordered.within (nth c.args.found.now.order.items c.loop-root.root-index) (in_order c.args.found.now.order.items c.loop-root.root-index 0 there)) in
    omega (arith, inside, c.loop-root.invariant.as_many, c.loop-root.ids.ok.0)

pub loop-root-preserved : goal.loop-root-preserved
loop-root-preserved c =
    let there : c.loop-root.root-index < length c.args.found.now.order.items = subst (λ l. c.loop-root.root-index < length l) c.deref-root-items.ensures.value c.loop-root-test.true in
    let inside : nth c.deref-root-items.result.now c.loop-root.root-index < length (shapes_of c.args.found.now.arena) =
    subst (λ l. nth l c.loop-root.root-index < length (shapes_of c.args.found.now.arena)) (sym c.deref-root-items.ensures.value) (c.requires.ordered.within (nth c.args.found.now.order.items c.loop-root.root-index) (in_order c.args.found.now.order.items c.loop-root.root-index 0 there)) in
    held_next (class_terms (classes_in c.args.found.now) var c.args.found.now.order.items) c.args.found.now.order.items c.loop-root.root-index (nth c.deref-root-items.result.now c.loop-root.root-index) (length (shapes_of c.args.found.now.arena)) c.loop-root.bank c.put_class.new.bank c.loop-root.numbers c.put_class.new.numbers
    c.loop-root.ids.items c.in_ok-id.id there (ap (λ l. nth l c.loop-root.root-index) c.deref-root-items.ensures.value) inside c.loop-root.invariant c.in_ok-id.ensures
