-- A clash, a cycle, or an order of the classes.
use Rattle.std.proofs.Common.{MatchOption, refl, subst, map}
use Rattle.term_unifiers.specs.Arenas.{shapes_of}
use Rattle.term_unifiers.specs.Classes.{Classes, IsCyclic, OrdersAll, classes_of}
use Rattle.term_unifiers.specs.Merging.{Merges, IsMerged, Clashes, merging_of}
use Rattle.term_unifiers.specs.Shapes.{tree_at}
use Rattle.term_unifiers.specs.Solutions.{IsFound}
use Rattle.term_unifiers.specs.declared.found.Found.{Found}
use Rattle.term_unifiers.proofs.Solving.{are_classes, clash_has_none, cycle_has_none}
use Rattle.term_unifiers.proofs.Unified.{entered_begun, solved_general}
use Rattle.term_unifiers.proofs.unifying.unifier.Goals as goal

pub returns-then-not-merge : goal.returns-then-not-merge
returns-then-not-merge c =
    let clash : Clashes (shapes_of c.args.nodes.arena) (merging_of c.args.nodes.work) = subst (Merges (shapes_of c.args.nodes.arena) (merging_of c.args.nodes.work) (merging_of c.merge.new.work)) c.if-not-merge.true c.merge.ensures in
    clash_has_none (shapes_of c.args.nodes.arena) c.args.nodes.work.lefts.items c.args.nodes.work.rights.items (merging_of c.args.nodes.work) (map (tree_at (shapes_of c.args.nodes.arena)) c.args.nodes.work.lefts.items) (map (tree_at (shapes_of c.args.nodes.arena)) c.args.nodes.work.rights.items) c.requires.nodes.arena.postorder (entered_begun c.args.nodes c.requires.nodes c.requires.even) refl refl clash

pub order_of-requires-clause-classes : goal.order_of-requires-clause-classes
order_of-requires-clause-classes c =
    let merged : IsMerged (shapes_of c.args.nodes.arena) (merging_of c.args.nodes.work) (merging_of c.merge.new.work) = subst (Merges (shapes_of c.args.nodes.arena) (merging_of c.args.nodes.work) (merging_of c.merge.new.work)) c.if-not-merge.false c.merge.ensures in
    are_classes (shapes_of c.args.nodes.arena) (merging_of c.args.nodes.work) (merging_of c.merge.new.work) c.requires.nodes.arena.postorder merged

pub measures_of-measures-requires-clause-classes : goal.measures_of-measures-requires-clause-classes
measures_of-measures-requires-clause-classes c =
    let merged : IsMerged (shapes_of c.args.nodes.arena) (merging_of c.args.nodes.work) (merging_of c.merge.new.work) = subst (Merges (shapes_of c.args.nodes.arena) (merging_of c.args.nodes.work) (merging_of c.merge.new.work)) c.if-not-merge.false c.merge.ensures in
    are_classes (shapes_of c.args.nodes.arena) (merging_of c.args.nodes.work) (merging_of c.merge.new.work) c.requires.nodes.arena.postorder merged

pub new-requires : goal.new-requires
new-requires c =
    let merged : IsMerged (shapes_of c.args.nodes.arena) (merging_of c.args.nodes.work) (merging_of c.merge.new.work) = subst (Merges (shapes_of c.args.nodes.arena) (merging_of c.args.nodes.work) (merging_of c.merge.new.work)) c.if-not-merge.false c.merge.ensures in
    let classes : Classes = classes_of (shapes_of c.args.nodes.arena) (merging_of c.merge.new.work) in
    let ordered : OrdersAll classes c.in-Some.order.items = subst (λ o. MatchOption o (IsCyclic classes) (λ order. OrdersAll classes order.items)) c.in-Some.is c.order_of.ensures in
    let found : Found = record { arena = c.args.nodes.arena; work = c.merge.new.work; order = c.in-Some.order; measures = c.measures_of-measures.result } in
    let is : IsFound found = record {
      arena = c.requires.nodes.arena;
      classes = are_classes (shapes_of c.args.nodes.arena) (merging_of c.args.nodes.work) (merging_of c.merge.new.work) c.requires.nodes.arena.postorder merged;
      ordered = ordered;
      measured = c.measures_of-measures.ensures;
    } in
    is

pub returns-in-None : goal.returns-in-None
returns-in-None c =
    let merged : IsMerged (shapes_of c.args.nodes.arena) (merging_of c.args.nodes.work) (merging_of c.merge.new.work) = subst (Merges (shapes_of c.args.nodes.arena) (merging_of c.args.nodes.work) (merging_of c.merge.new.work)) c.if-not-merge.false c.merge.ensures in
    let classes : Classes = classes_of (shapes_of c.args.nodes.arena) (merging_of c.merge.new.work) in
    let cyclic : IsCyclic classes = subst (λ o. MatchOption o (IsCyclic classes) (λ order. OrdersAll classes order.items)) c.in-None.is c.order_of.ensures in
    cycle_has_none (shapes_of c.args.nodes.arena) c.args.nodes.work.lefts.items c.args.nodes.work.rights.items (merging_of c.args.nodes.work) (merging_of c.merge.new.work) (map (tree_at (shapes_of c.args.nodes.arena)) c.args.nodes.work.lefts.items) (map (tree_at (shapes_of c.args.nodes.arena)) c.args.nodes.work.rights.items) c.requires.nodes.arena.postorder (entered_begun c.args.nodes c.requires.nodes c.requires.even) refl refl merged cyclic

pub returns-in-Some : goal.returns-in-Some
returns-in-Some c =
    let merged : IsMerged (shapes_of c.args.nodes.arena) (merging_of c.args.nodes.work) (merging_of c.merge.new.work) = subst (Merges (shapes_of c.args.nodes.arena) (merging_of c.args.nodes.work) (merging_of c.merge.new.work)) c.if-not-merge.false c.merge.ensures in
    let classes : Classes = classes_of (shapes_of c.args.nodes.arena) (merging_of c.merge.new.work) in
    let ordered : OrdersAll classes c.in-Some.order.items = subst (λ o. MatchOption o (IsCyclic classes) (λ order. OrdersAll classes order.items)) c.in-Some.is c.order_of.ensures in
    let found : Found = record { arena = c.args.nodes.arena; work = c.merge.new.work; order = c.in-Some.order; measures = c.measures_of-measures.result } in
    let is : IsFound found = record {
      arena = c.requires.nodes.arena;
      classes = are_classes (shapes_of c.args.nodes.arena) (merging_of c.args.nodes.work) (merging_of c.merge.new.work) c.requires.nodes.arena.postorder merged;
      ordered = ordered;
      measured = c.measures_of-measures.ensures;
    } in
    solved_general found c.args.nodes.work.lefts.items c.args.nodes.work.rights.items (merging_of c.args.nodes.work) c.new.result is (entered_begun c.args.nodes c.requires.nodes c.requires.even) merged c.new.ensures

pub merge-requires-clause-work : goal.merge-requires-clause-work
merge-requires-clause-work c = (entered_begun c.args.nodes c.requires.nodes c.requires.even).merging
