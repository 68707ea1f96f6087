-- A class more.
use Rattle.std.proofs.Common.{◌<◌, sym, ap, subst, length, arith}
use Rattle.term_unifiers.specs.Arenas.{shapes_of}
use Rattle.term_unifiers.specs.Classes.{Classes, arguments_of, classes_of, schema_of}
use Rattle.term_unifiers.specs.Measures.{IsAbove}
use Rattle.term_unifiers.specs.Merging.{merging_of, nth}
use Rattle.term_unifiers.proofs.Orders.{in_order, measured_next}
use Rattle.term_unifiers.proofs.measuring.measures_of.Goals as goal

pub measured-measure-requires-clause-root : goal.measured-measure-requires-clause-root
measured-measure-requires-clause-root c =
    let there : c.loop-root.root-index < length c.args.order.now.items = subst (λ l. c.loop-root.root-index < length l) c.deref-root-items.ensures.value c.loop-root-test.true in
    subst (λ l. nth l c.loop-root.root-index < length (shapes_of c.args.arena.now)) (sym c.deref-root-items.ensures.value) (c.requires.order.within (nth c.args.order.now.items c.loop-root.root-index) (in_order c.args.order.now.items c.loop-root.root-index 0 there))

pub index_mut-requires : goal.index_mut-requires
index_mut-requires c =
    let there : c.loop-root.root-index < length c.args.order.now.items = subst (λ l. c.loop-root.root-index < length l) c.deref-root-items.ensures.value c.loop-root-test.true in
    let inside : nth c.deref-root-items.result.now c.loop-root.root-index < length (shapes_of c.args.arena.now) =
    subst (λ l. nth l c.loop-root.root-index < length (shapes_of c.args.arena.now)) (sym c.deref-root-items.ensures.value) (c.requires.order.within (nth c.args.order.now.items c.loop-root.root-index) (in_order c.args.order.now.items c.loop-root.root-index 0 there)) in
    omega (arith, inside, c.loop-root.invariant.as_many, c.loop-root.measures.ok.0)

pub loop-root-preserved : goal.loop-root-preserved
loop-root-preserved c =
    let classes : Classes = classes_of (shapes_of c.args.arena.now) (merging_of c.args.work.now) in
    let there : c.loop-root.root-index < length c.args.order.now.items = subst (λ l. c.loop-root.root-index < length l) c.deref-root-items.ensures.value c.loop-root-test.true in
    measured_next classes c.args.order.now.items c.loop-root.root-index (nth c.deref-root-items.result.now c.loop-root.root-index) c.loop-root.measures.items c.measured-measure.result c.requires.order.order there
    (ap (λ l. nth l c.loop-root.root-index) c.deref-root-items.ensures.value)
    (c.requires.order.within (nth c.args.order.now.items c.loop-root.root-index) (in_order c.args.order.now.items c.loop-root.root-index 0 there))
    c.loop-root.invariant
    (subst (λ l. IsAbove c.args.work.now.links.items l (arguments_of (schema_of classes (nth c.deref-root-items.result.now c.loop-root.root-index))) c.measured-measure.result) c.as_slice.ensures.value c.measured-measure.ensures)
