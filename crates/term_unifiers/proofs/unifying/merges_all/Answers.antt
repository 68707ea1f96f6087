-- A clash, a cycle, or an order of the classes.
use Rattle.std.proofs.Common.{IsTrue, false, MatchOption, refl, subst, map}
use Rattle.term_unifiers.specs.Arenas.{shapes_of}
use Rattle.term_unifiers.specs.Classes.{Classes, IsCyclic, OrdersAll, classes_of, found_terms}
use Rattle.term_unifiers.specs.Merging.{Merges, IsMerged, Clashes, merging_of}
use Rattle.term_unifiers.specs.Shapes.{tree_at}
use Rattle.term_unifiers.proofs.Solving.{are_classes, clash_has_none, cycle_has_none, found_is_general}
use Rattle.term_unifiers.proofs.Unified.{entered_begun}
use Rattle.term_unifiers.proofs.unifying.merges_all.Goals as goal

no_falsehood : IsTrue false → ⊥
no_falsehood e = cc

pub returns-then-not-merge : goal.returns-then-not-merge
returns-then-not-merge c =
    let shapes = shapes_of c.args.nodes.arena in
    let clash : Clashes (shapes_of c.args.nodes.arena) (merging_of c.args.nodes.work) = subst (Merges shapes (merging_of c.args.nodes.work) (merging_of c.merge.new.work)) c.if-not-merge.true c.merge.ensures in
    let never = clash_has_none shapes c.args.nodes.work.lefts.items c.args.nodes.work.rights.items (merging_of c.args.nodes.work) (map (tree_at shapes) c.args.nodes.work.lefts.items) (map (tree_at shapes) c.args.nodes.work.rights.items) c.requires.nodes.arena.postorder (entered_begun c.args.nodes c.requires.nodes c.requires.even) refl refl clash in
    (λ e. absurd (no_falsehood e), λ made. absurd (never made.0 made.1))

pub order_of-requires-clause-classes : goal.order_of-requires-clause-classes
order_of-requires-clause-classes c =
    let shapes = shapes_of c.args.nodes.arena in
    let merged : IsMerged (shapes_of c.args.nodes.arena) (merging_of c.args.nodes.work) (merging_of c.merge.new.work) = subst (Merges shapes (merging_of c.args.nodes.work) (merging_of c.merge.new.work)) c.if-not-merge.false c.merge.ensures in
    are_classes shapes (merging_of c.args.nodes.work) (merging_of c.merge.new.work) c.requires.nodes.arena.postorder merged

pub returns-in-None : goal.returns-in-None
returns-in-None c =
    let shapes = shapes_of c.args.nodes.arena in
    let merged : IsMerged (shapes_of c.args.nodes.arena) (merging_of c.args.nodes.work) (merging_of c.merge.new.work) = subst (Merges shapes (merging_of c.args.nodes.work) (merging_of c.merge.new.work)) c.if-not-merge.false c.merge.ensures in
    let classes : Classes = classes_of shapes (merging_of c.merge.new.work) in
    let cyclic : IsCyclic classes = subst (λ o. MatchOption o (IsCyclic classes) (λ order. OrdersAll classes order.items)) c.in-None.is c.order_of.ensures in
    let never = cycle_has_none shapes c.args.nodes.work.lefts.items c.args.nodes.work.rights.items (merging_of c.args.nodes.work) (merging_of c.merge.new.work) (map (tree_at shapes) c.args.nodes.work.lefts.items) (map (tree_at shapes) c.args.nodes.work.rights.items) c.requires.nodes.arena.postorder (entered_begun c.args.nodes c.requires.nodes c.requires.even) refl refl merged cyclic in
    (λ e. absurd (no_falsehood e), λ made. absurd (never made.0 made.1))

pub returns : goal.returns
returns c =
    let shapes = shapes_of c.args.nodes.arena in
    let merged : IsMerged (shapes_of c.args.nodes.arena) (merging_of c.args.nodes.work) (merging_of c.merge.new.work) = subst (Merges shapes (merging_of c.args.nodes.work) (merging_of c.merge.new.work)) c.if-not-merge.false c.merge.ensures in
    let classes : Classes = classes_of shapes (merging_of c.merge.new.work) in
    let ordered : OrdersAll classes c.in-Some._order.items = subst (λ o. MatchOption o (IsCyclic classes) (λ order. OrdersAll classes order.items)) c.in-Some.is c.order_of.ensures in
    let general = found_is_general c.args.nodes.arena c.args.nodes.work.lefts.items c.args.nodes.work.rights.items (merging_of c.args.nodes.work) (merging_of c.merge.new.work) c.in-Some._order.items (map (tree_at shapes) c.args.nodes.work.lefts.items) (map (tree_at shapes) c.args.nodes.work.rights.items) c.requires.nodes.arena (entered_begun c.args.nodes c.requires.nodes c.requires.even) merged ordered.order ordered.whole ordered.within refl refl in
    (λ e. (found_terms c.args.nodes.arena classes c.in-Some._order.items, general.unifies), λ made. refl)

pub merge-requires-clause-work : goal.merge-requires-clause-work
merge-requires-clause-work c = (entered_begun c.args.nodes c.requires.nodes c.requires.even).merging
