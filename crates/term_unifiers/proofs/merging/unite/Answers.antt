-- The schemas of both classes, and what was made of them.
use Rattle.std.proofs.Common.{refl, ap, set, arith}
use Rattle.term_unifiers.specs.Arenas.{shapes_of}
use Rattle.term_unifiers.specs.Merging.{Merging, merging_of}
use Rattle.term_unifiers.proofs.Merges.{even_before, pair_inside, schema_read, united_clash, united_first, united_second, united_less, passed_less}
use Rattle.term_unifiers.specs.Merging.{arity}
use Rattle.term_unifiers.specs.Shapes.{shape_at}
use Rattle.term_unifiers.proofs.Rooms.{room_there, united_first_room, united_second_room}
use Rattle.term_unifiers.proofs.merging.unite.Goals as goal

pub compare-requires-clause-p : goal.compare-requires-clause-p
compare-requires-clause-p c =
    let m : Merging = merging_of c.args.work.now in
    let i = pair_inside (shapes_of c.args.arena.now) m c.args.low c.args.high c.requires.unite.merging in
    (schema_read (shapes_of c.args.arena.now) m c.args.low c.args.high c.args.low c.index-kept.result.now c.requires.unite i.0 c.index-kept.ensures).1

pub compare-requires-clause-q : goal.compare-requires-clause-q
compare-requires-clause-q c =
    let m : Merging = merging_of c.args.work.now in
    let i = pair_inside (shapes_of c.args.arena.now) m c.args.low c.args.high c.requires.unite.merging in
    (schema_read (shapes_of c.args.arena.now) m c.args.low c.args.high c.args.high c.index-other.result.now c.requires.unite i.1 c.index-other.ensures).1

pub returns-in-Clash-clause-steps : goal.returns-in-Clash-clause-steps
returns-in-Clash-clause-steps c =
    let m : Merging = merging_of c.args.work.now in
    let i = pair_inside (shapes_of c.args.arena.now) m c.args.low c.args.high c.requires.unite.merging in
    let k = schema_read (shapes_of c.args.arena.now) m c.args.low c.args.high c.args.low c.index-kept.result.now c.requires.unite i.0 c.index-kept.ensures in
    let o = schema_read (shapes_of c.args.arena.now) m c.args.low c.args.high c.args.high c.index-other.result.now c.requires.unite i.1 c.index-other.ensures in
    united_clash (shapes_of c.args.arena.now) m c.args.low c.args.high c.index-kept.result.now c.index-other.result.now c.args.work.now.lefts.items c.args.work.now.rights.items c.compare.new.lefts.items c.compare.new.rights.items
    c.compare.result c.requires.unite k.0 o.0 c.in-Clash.is c.compare.ensures.compared

pub returns-in-First-clause-steps : goal.returns-in-First-clause-steps
returns-in-First-clause-steps c =
    let m : Merging = merging_of c.args.work.now in
    let i = pair_inside (shapes_of c.args.arena.now) m c.args.low c.args.high c.requires.unite.merging in
    let k = schema_read (shapes_of c.args.arena.now) m c.args.low c.args.high c.args.low c.index-kept.result.now c.requires.unite i.0 c.index-kept.ensures in
    let o = schema_read (shapes_of c.args.arena.now) m c.args.low c.args.high c.args.high c.index-other.result.now c.requires.unite i.1 c.index-other.ensures in
    let n : Merging = record { links = set c.args.work.now.links.items c.args.high c.args.low; schemas = c.args.work.now.schemas.items; lefts = c.compare.new.lefts.items; rights = c.compare.new.rights.items } in
    united_first (shapes_of c.args.arena.now) m n c.args.low c.args.high c.index-kept.result.now c.index-other.result.now c.compare.result c.requires.unite k.0 o.0 c.in-First.is c.compare.ensures.compared refl refl

pub returns-in-First-clause-less : goal.returns-in-First-clause-less
returns-in-First-clause-less c =
    let m : Merging = merging_of c.args.work.now in
    let i = pair_inside (shapes_of c.args.arena.now) m c.args.low c.args.high c.requires.unite.merging in
    let k = schema_read (shapes_of c.args.arena.now) m c.args.low c.args.high c.args.low c.index-kept.result.now c.requires.unite i.0 c.index-kept.ensures in
    let o = schema_read (shapes_of c.args.arena.now) m c.args.low c.args.high c.args.high c.index-other.result.now c.requires.unite i.1 c.index-other.ensures in
    let n : Merging = record { links = set c.args.work.now.links.items c.args.high c.args.low; schemas = c.args.work.now.schemas.items; lefts = c.compare.new.lefts.items; rights = c.compare.new.rights.items } in
    united_less (shapes_of c.args.arena.now) m n c.args.low c.args.high c.index-kept.result.now c.index-other.result.now c.compare.result c.requires.unite k.0 o.0 c.in-First.is c.compare.ensures.compared refl

pub returns-in-Second-clause-steps : goal.returns-in-Second-clause-steps
returns-in-Second-clause-steps c =
    let m : Merging = merging_of c.args.work.now in
    let i = pair_inside (shapes_of c.args.arena.now) m c.args.low c.args.high c.requires.unite.merging in
    let k = schema_read (shapes_of c.args.arena.now) m c.args.low c.args.high c.args.low c.index-kept.result.now c.requires.unite i.0 c.index-kept.ensures in
    let o = schema_read (shapes_of c.args.arena.now) m c.args.low c.args.high c.args.high c.index-other.result.now c.requires.unite i.1 c.index-other.ensures in
    let n : Merging = record { links = set c.args.work.now.links.items c.args.high c.args.low; schemas = set c.args.work.now.schemas.items c.args.low c.index-other.result.now; lefts = c.compare.new.lefts.items; rights = c.compare.new.rights.items } in
    united_second (shapes_of c.args.arena.now) m n c.args.low c.args.high c.index-kept.result.now c.index-other.result.now c.compare.result c.requires.unite k.0 o.0 c.in-Second.is c.compare.ensures.compared refl refl

pub compare-requires-clause-left_room : goal.compare-requires-clause-left_room
compare-requires-clause-left_room c =
    let m : Merging = merging_of c.args.work.now in
    let i = pair_inside (shapes_of c.args.arena.now) m c.args.low c.args.high c.requires.unite.merging in
    let o = schema_read (shapes_of c.args.arena.now) m c.args.low c.args.high c.args.high c.index-other.result.now c.requires.unite i.1 c.index-other.ensures in
    let same = ap (λ k. arity (shape_at (shapes_of c.args.arena.now) k)) o.0 in
    let there = room_there (shapes_of c.args.arena.now) m c.args.low c.args.high c.requires.unite i.1 in
    omega (arith, same, there, c.requires.room.lefts, c.args.work.now.lefts.ok.0)

pub compare-requires-clause-right_room : goal.compare-requires-clause-right_room
compare-requires-clause-right_room c =
    let m : Merging = merging_of c.args.work.now in
    let i = pair_inside (shapes_of c.args.arena.now) m c.args.low c.args.high c.requires.unite.merging in
    let o = schema_read (shapes_of c.args.arena.now) m c.args.low c.args.high c.args.high c.index-other.result.now c.requires.unite i.1 c.index-other.ensures in
    let same = ap (λ k. arity (shape_at (shapes_of c.args.arena.now) k)) o.0 in
    let there = room_there (shapes_of c.args.arena.now) m c.args.low c.args.high c.requires.unite i.1 in
    let even = even_before (shapes_of c.args.arena.now) m c.args.low c.args.high c.requires.unite.merging in
    omega (arith, same, there, even, c.requires.room.rights, c.args.work.now.rights.ok.0)

pub returns-in-First-clause-room : goal.returns-in-First-clause-room
returns-in-First-clause-room c =
    let m : Merging = merging_of c.args.work.now in
    let i = pair_inside (shapes_of c.args.arena.now) m c.args.low c.args.high c.requires.unite.merging in
    let k = schema_read (shapes_of c.args.arena.now) m c.args.low c.args.high c.args.low c.index-kept.result.now c.requires.unite i.0 c.index-kept.ensures in
    let o = schema_read (shapes_of c.args.arena.now) m c.args.low c.args.high c.args.high c.index-other.result.now c.requires.unite i.1 c.index-other.ensures in
    let n : Merging = record { links = set c.args.work.now.links.items c.args.high c.args.low; schemas = c.args.work.now.schemas.items; lefts = c.compare.new.lefts.items; rights = c.compare.new.rights.items } in
    let less = united_first_room (shapes_of c.args.arena.now) m n c.args.low c.args.high c.index-kept.result.now c.index-other.result.now c.compare.result c.requires.unite i.1 k.0 o.0 c.in-First.is c.compare.ensures.compared refl refl in
    record {
      lefts = omega (arith, less, c.requires.room.lefts, c.compare.ensures.left_capacity);
      rights = omega (arith, less, c.requires.room.rights, c.compare.ensures.right_capacity);
    }

pub returns-in-Second-clause-room : goal.returns-in-Second-clause-room
returns-in-Second-clause-room c =
    let m : Merging = merging_of c.args.work.now in
    let i = pair_inside (shapes_of c.args.arena.now) m c.args.low c.args.high c.requires.unite.merging in
    let k = schema_read (shapes_of c.args.arena.now) m c.args.low c.args.high c.args.low c.index-kept.result.now c.requires.unite i.0 c.index-kept.ensures in
    let o = schema_read (shapes_of c.args.arena.now) m c.args.low c.args.high c.args.high c.index-other.result.now c.requires.unite i.1 c.index-other.ensures in
    let n : Merging = record { links = set c.args.work.now.links.items c.args.high c.args.low; schemas = set c.args.work.now.schemas.items c.args.low c.index-other.result.now; lefts = c.compare.new.lefts.items; rights = c.compare.new.rights.items } in
    let less = united_second_room (shapes_of c.args.arena.now) m n c.args.low c.args.high c.index-kept.result.now c.index-other.result.now c.compare.result c.requires.unite i.0 i.1 k.0 o.0 c.in-Second.is c.compare.ensures.compared refl refl in
    record {
      lefts = omega (arith, less, c.requires.room.lefts, c.compare.ensures.left_capacity);
      rights = omega (arith, less, c.requires.room.rights, c.compare.ensures.right_capacity);
    }

pub returns-in-Second-clause-less : goal.returns-in-Second-clause-less
returns-in-Second-clause-less c =
    let m : Merging = merging_of c.args.work.now in
    let n : Merging = record { links = set c.args.work.now.links.items c.args.high c.args.low; schemas = set c.args.work.now.schemas.items c.args.low c.index-other.result.now; lefts = c.compare.new.lefts.items; rights = c.compare.new.rights.items } in
    passed_less (shapes_of c.args.arena.now) m n c.args.low c.args.high c.index-kept.result.now c.index-other.result.now c.compare.result c.requires.unite c.in-Second.is c.compare.ensures.compared refl
