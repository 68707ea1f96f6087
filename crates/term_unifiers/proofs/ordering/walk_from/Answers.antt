-- The first class on the way, and a step more.
use Rattle.std.proofs.Common.{◌≡◌, ◌+◌, ◌<◌, refl, subst, length, arith}
use Rattle.term_unifiers.specs.Arenas.{shapes_of}
use Rattle.term_unifiers.specs.Classes.{Classes, classes_of}
use Rattle.term_unifiers.specs.Merging.{merging_of}
use Rattle.term_unifiers.specs.Rooms.{KeepsPlaces}
use Rattle.term_unifiers.specs.Walking.{Advances, WalksOn}
use Rattle.term_unifiers.specs.declared.walk.Walk.{Walk}
use Rattle.term_unifiers.proofs.Advances.{first_frame, first_marked}
use Rattle.term_unifiers.proofs.Rooms.{marks_opened}
use Rattle.term_unifiers.proofs.ordering.walk_from.Goals as goal

pub walk-init : goal.walk-init
walk-init c =
    let classes : Classes = classes_of (shapes_of c.args.arena.now) (merging_of c.args.work.now) in
    record {
      walk = first_frame classes c.args.walk.now (record { root = c.args.root; next = 0 }) _ c.requires.walk c.requires.root c.requires.new refl c.push_reserved.ensures.items;
      kept = λ r i. i;
      places =
          let inside : c.args.root < length c.args.walk.now.marks.items = omega (arith, c.requires.root, c.requires.walk.walk.as_many) in
          let opened = marks_opened c.args.walk.now.marks.items c.args.root inside c.requires.new in
          let longer : length c.push_reserved.new.self.items ≡ length c.args.walk.now.frames.items + 1 = omega (arith, c.push_reserved.ensures.len, c.push_reserved.new.self.ok.0, c.args.walk.now.frames.ok.0) in
          record {
            order = omega (arith, opened, longer, c.requires.places.order);
            frames = omega (arith, opened, longer, c.requires.places.frames, c.push_reserved.ensures.capacity);
          };
      marked = first_marked classes c.args.walk.now c.args.root c.requires.walk c.requires.root;
    }

pub walk-preserved : goal.walk-preserved
walk-preserved c =
    let classes : Classes = classes_of (shapes_of c.args.arena.now) (merging_of c.args.work.now) in
    let old : Walk = record { marks = c.walk.walk.marks; order = c.walk.walk.order; frames = c.pop.new.self } in
    let on : WalksOn classes _ _ _ c.advance.new.walk = subst (Advances classes old c.in-Some.frame c.advance.new.walk) c.if-not-advance.false c.advance.ensures.advances in
    record {
      walk = on.walk;
      kept = λ r i. on.kept r (c.walk.invariant.kept r i);
      places = subst (KeepsPlaces c.advance.new.walk) c.if-not-advance.false c.advance.ensures.places;
      marked = on.marked c.args.root c.walk.invariant.marked;
    }

pub push_reserved-requires : goal.push_reserved-requires
push_reserved-requires c =
    let inside : c.args.root < length c.args.walk.now.marks.items = omega (arith, c.requires.root, c.requires.walk.walk.as_many) in
    let opened = marks_opened c.args.walk.now.marks.items c.args.root inside c.requires.new in
    omega (arith, opened, c.requires.places.frames, c.args.walk.now.frames.ok.0)

pub advance-requires-clause-places : goal.advance-requires-clause-places
advance-requires-clause-places c =
    let shorter : length c.walk.walk.frames.items ≡ length c.pop.new.self.items + 1 = omega (arith, c.in-Some.ensures.cases, c.walk.walk.frames.ok.0, c.pop.new.self.ok.0) in
    record {
      order = omega (arith, shorter, c.walk.invariant.places.order);
      frames = omega (arith, shorter, c.walk.invariant.places.frames, c.in-Some.ensures.capacity);
    }
