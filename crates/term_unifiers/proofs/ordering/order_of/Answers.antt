-- A class more, and all of them.
use Rattle.std.proofs.Common.{◌≡◌, ◌<◌, [], sym, subst, length, arith}
use Rattle.std.proofs.lemmas.List.{get_or_read, length-map}
use Rattle.term_unifiers.specs.Arenas.{shape_of, shapes_of}
use Rattle.term_unifiers.specs.Classes.{Classes, classes_of}
use Rattle.term_unifiers.specs.Merging.{merging_of}
use Rattle.term_unifiers.specs.Rooms.{KeepsPlaces}
use Rattle.term_unifiers.specs.Walking.{Visits, IsVisited, IsWalk}
use Rattle.term_unifiers.proofs.Advances.{visited_more, ordered_all}
use Rattle.term_unifiers.proofs.Walks.{walk_none}
use Rattle.term_unifiers.proofs.ordering.order_of.Goals as goal

pub loop-n-init : goal.loop-n-init
loop-n-init c =
    let classes : Classes = classes_of (shapes_of c.args.arena.now) (merging_of c.args.work.now) in
    let none = walk_none classes c.args.walk.marks.items c.requires.walk.as_many c.requires.walk.marks in
    record {
      rests = record {
        walk = subst (λ l. IsWalk classes c.args.walk.marks.items l c.args.walk.frames.items) (sym c.requires.walk.order) (subst (IsWalk classes c.args.walk.marks.items []) (sym c.requires.walk.frames) none);
        empty = c.requires.walk.frames;
      };
      places = c.requires.walk.places;
      there = λ k h. absurd (omega (arith, h));
    }

pub loop-n-preserved : goal.loop-n-preserved
loop-n-preserved c =
    let classes : Classes = classes_of (shapes_of c.args.arena.now) (merging_of c.args.work.now) in
    let visited : IsVisited classes c.loop-n.walk c.visit.new.walk c.index-root.result.now = subst (Visits classes c.loop-n.walk c.visit.new.walk c.index-root.result.now) c.if-not-visit.false c.visit.ensures.visits in
    let whole = length-map c.args.arena.now.nodes.items (shape_of c.args.arena.now.arguments.items) in
    let inside : c.loop-n.n < length c.args.work.now.links.items = omega (arith, whole, c.requires.classes.linked, c.loop-n-test.true, c.len-n-end.ensures, c.args.arena.now.nodes.ok.0) in
    record {
      rests = visited.rests;
      places = subst (KeepsPlaces c.visit.new.walk) c.if-not-visit.false c.visit.ensures.places;
      there = visited_more classes c.loop-n.walk c.visit.new.walk c.index-root.result.now c.loop-n.n visited (get_or_read c.args.work.now.links.items c.loop-n.n c.index-root.result.now inside c.index-root.ensures 0) c.loop-n.invariant.there;
    }

pub returns : goal.returns
returns c =
    let classes : Classes = classes_of (shapes_of c.args.arena.now) (merging_of c.args.work.now) in
    let whole = length-map c.args.arena.now.nodes.items (shape_of c.args.arena.now.arguments.items) in
    let all : c.loop-n.n ≡ length (shapes_of c.args.arena.now) = omega (arith, whole, c.loop-n-test.false, c.loop-n.auto.n-end, c.len-n-end.ensures, c.args.arena.now.nodes.ok.0) in
    ordered_all classes c.loop-n.walk c.loop-n.n c.loop-n.invariant.rests all c.loop-n.invariant.there
