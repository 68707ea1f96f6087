-- Each step by what was found.
use Rattle.std.proofs.Common.{◌≡◌, ◌+◌, ◌<◌, ◌∙◌, refl, ap, length, arith, ◌++◌, ◌∷◌, []}
use Rattle.term_unifiers.specs.Arenas.{shapes_of}
use Rattle.term_unifiers.specs.Classes.{Classes, classes_of}
use Rattle.term_unifiers.specs.Merging.{merging_of}
use Rattle.term_unifiers.specs.declared.walk.Frame.{Frame}
use Rattle.term_unifiers.specs.declared.walk.Mark.TheVariants.{New, Open, Done}
use Rattle.term_unifiers.specs.declared.walk.Walk.{Walk}
use Rattle.term_unifiers.proofs.Advances.{mark_read, ends, passes, enters, closes}
use Rattle.term_unifiers.proofs.Rooms.{marks_opened, marks_same}
use Rattle.term_unifiers.proofs.Walks.{innermost}
use Rattle.term_unifiers.proofs.ordering.advance.Goals as goal

pub overflow_add-later : goal.overflow_add-later
overflow_add-later c = omega (arith, c.in-Some.ensures.few)

pub returns-in-None-clause-advances : goal.returns-in-None-clause-advances
returns-in-None-clause-advances c =
    let classes : Classes = classes_of (shapes_of c.args.arena.now) (merging_of c.args.work.now) in
    let walk : Walk = c.args.walk.now in
    let top = innermost classes walk.marks.items walk.order.items walk.frames.items c.args.frame c.requires.walk in
    ends classes walk.marks.items walk.order.items walk.frames.items c.args.frame _ c.requires.walk top.within top.marked c.in-None.ensures.child refl c.push_reserved.ensures.items refl

pub returns-in-Done-clause-advances : goal.returns-in-Done-clause-advances
returns-in-Done-clause-advances c =
    let classes : Classes = classes_of (shapes_of c.args.arena.now) (merging_of c.args.work.now) in
    let walk : Walk = c.args.walk.now in
    let later : Frame = record { root = c.args.frame.root; next = c.args.frame.next + 1 } in
    let top = innermost classes walk.marks.items walk.order.items walk.frames.items c.args.frame c.requires.walk in
    passes classes walk.marks.items walk.order.items walk.frames.items c.args.frame later c.in-Some.child _ c.requires.classes c.requires.walk top.within c.in-Some.ensures.child
    (mark_read classes walk.marks.items walk.order.items (walk.frames.items ++ c.args.frame ∷ []) c.in-Some.child c.index.result.now Done c.requires.walk c.in-Some.ensures.child.within c.index.ensures c.in-Done.is)
    refl refl refl refl c.push_reserved-in-Done.ensures.items

pub returns-in-Open-clause-advances : goal.returns-in-Open-clause-advances
returns-in-Open-clause-advances c =
    let classes : Classes = classes_of (shapes_of c.args.arena.now) (merging_of c.args.work.now) in
    let walk : Walk = c.args.walk.now in
    closes classes walk.marks.items walk.order.items walk.frames.items c.args.frame c.in-Some.child c.requires.classes c.requires.walk c.in-Some.ensures.child
    (mark_read classes walk.marks.items walk.order.items (walk.frames.items ++ c.args.frame ∷ []) c.in-Some.child c.index.result.now Open c.requires.walk c.in-Some.ensures.child.within c.index.ensures c.in-Open.is)

pub returns-in-New-clause-advances : goal.returns-in-New-clause-advances
returns-in-New-clause-advances c =
    let classes : Classes = classes_of (shapes_of c.args.arena.now) (merging_of c.args.work.now) in
    let walk : Walk = c.args.walk.now in
    let inner : Frame = record { root = c.in-Some.child; next = 0 } in
    enters classes walk.marks.items walk.order.items walk.frames.items c.args.frame inner _ c.requires.classes c.requires.walk c.in-Some.ensures.child
    (mark_read classes walk.marks.items walk.order.items (walk.frames.items ++ c.args.frame ∷ []) c.in-Some.child c.index.result.now New c.requires.walk c.in-Some.ensures.child.within c.index.ensures c.in-New.is)
    refl refl refl (c.push_reserved-in-New-2.ensures.items ∙ ap (λ l. l ++ inner ∷ []) c.push_reserved-in-New.ensures.items)

pub push_reserved-requires : goal.push_reserved-requires
push_reserved-requires c = omega (arith, c.requires.places.order, c.args.walk.now.order.ok.0)

pub push_reserved-requires-in-Done : goal.push_reserved-requires-in-Done
push_reserved-requires-in-Done c = omega (arith, c.requires.places.frames, c.args.walk.now.frames.ok.0)

pub push_reserved-requires-in-New : goal.push_reserved-requires-in-New
push_reserved-requires-in-New c = omega (arith, c.requires.places.frames, c.args.walk.now.frames.ok.0)

pub push_reserved-requires-in-New-2 : goal.push_reserved-requires-in-New-2
push_reserved-requires-in-New-2 c =
    let classes : Classes = classes_of (shapes_of c.args.arena.now) (merging_of c.args.work.now) in
    let walk : Walk = c.args.walk.now in
    let fresh = mark_read classes walk.marks.items walk.order.items (walk.frames.items ++ c.args.frame ∷ []) c.in-Some.child c.index.result.now New c.requires.walk c.in-Some.ensures.child.within c.index.ensures c.in-New.is in
    let inside : c.in-Some.child < length walk.marks.items = omega (arith, c.in-Some.ensures.child.within, c.requires.walk.as_many) in
    let opened = marks_opened walk.marks.items c.in-Some.child inside fresh in
    omega (arith, opened, c.requires.places.frames, c.push_reserved-in-New.ensures.len, c.push_reserved-in-New.ensures.capacity, c.args.walk.now.frames.ok.0)

pub returns-in-None-clause-places : goal.returns-in-None-clause-places
returns-in-None-clause-places c =
    let classes : Classes = classes_of (shapes_of c.args.arena.now) (merging_of c.args.work.now) in
    let walk : Walk = c.args.walk.now in
    let top = innermost classes walk.marks.items walk.order.items walk.frames.items c.args.frame c.requires.walk in
    let inside : c.args.frame.root < length walk.marks.items = omega (arith, top.within, c.requires.walk.as_many) in
    let same = marks_same walk.marks.items c.args.frame.root Open Done inside top.marked refl refl in
    let longer : length c.push_reserved.new.self.items ≡ length walk.order.items + 1 = omega (arith, c.push_reserved.ensures.len, c.push_reserved.new.self.ok.0, c.args.walk.now.order.ok.0) in
    record {
      order = omega (arith, same, longer, c.requires.places.order, c.push_reserved.ensures.capacity);
      frames = omega (arith, same, longer, c.requires.places.frames);
    }

pub returns-in-Done-clause-places : goal.returns-in-Done-clause-places
returns-in-Done-clause-places c =
    let longer : length c.push_reserved-in-Done.new.self.items ≡ length c.args.walk.now.frames.items + 1 = omega (arith, c.push_reserved-in-Done.ensures.len, c.push_reserved-in-Done.new.self.ok.0, c.args.walk.now.frames.ok.0) in
    record {
      order = omega (arith, longer, c.requires.places.order);
      frames = omega (arith, longer, c.requires.places.frames, c.push_reserved-in-Done.ensures.capacity);
    }

pub returns-in-New-clause-places : goal.returns-in-New-clause-places
returns-in-New-clause-places c =
    let classes : Classes = classes_of (shapes_of c.args.arena.now) (merging_of c.args.work.now) in
    let walk : Walk = c.args.walk.now in
    let fresh = mark_read classes walk.marks.items walk.order.items (walk.frames.items ++ c.args.frame ∷ []) c.in-Some.child c.index.result.now New c.requires.walk c.in-Some.ensures.child.within c.index.ensures c.in-New.is in
    let inside : c.in-Some.child < length walk.marks.items = omega (arith, c.in-Some.ensures.child.within, c.requires.walk.as_many) in
    let opened = marks_opened walk.marks.items c.in-Some.child inside fresh in
    let longer : length c.push_reserved-in-New-2.new.self.items ≡ length walk.frames.items + 2 = omega (arith, c.push_reserved-in-New.ensures.len, c.push_reserved-in-New-2.ensures.len, c.push_reserved-in-New-2.new.self.ok.0, c.args.walk.now.frames.ok.0) in
    record {
      order = omega (arith, opened, longer, c.requires.places.order);
      frames = omega (arith, opened, longer, c.requires.places.frames, c.push_reserved-in-New.ensures.capacity, c.push_reserved-in-New-2.ensures.capacity);
    }
