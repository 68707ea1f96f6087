-- The least nodes of both classes are a pair in place of the nodes.
use Rattle.std.proofs.Common.{◌≡◌, ◌<◌, refl, length, arith}
use Rattle.term_unifiers.specs.Arenas.{shapes_of}
use Rattle.term_unifiers.specs.Merging.{Merging, merging_of, with_pair}
use Rattle.term_unifiers.proofs.Merges.{pair_inside, pair_found, pair_turned, pair_dropped, can_unite, goes_on, steps_on, lessens_on, found_less}
use Rattle.term_unifiers.proofs.Links.{shortened_on}
use Rattle.term_unifiers.proofs.Rooms.{found_room}
use Rattle.term_unifiers.proofs.merging.equate.Goals as goal

pub find-a-requires-clause-start : goal.find-a-requires-clause-start
find-a-requires-clause-start c =
    let i = pair_inside (shapes_of c.args.arena.now) (merging_of c.args.work.now) c.args.left c.args.right c.requires.work in
    omega (arith, i.0, c.requires.work.linked)

pub find-b-requires-clause-start : goal.find-b-requires-clause-start
find-b-requires-clause-start c =
    let i = pair_inside (shapes_of c.args.arena.now) (merging_of c.args.work.now) c.args.left c.args.right c.requires.work in
    omega (arith, i.1, c.requires.work.linked, c.find-a.ensures.shortened.as_many)

pub unite-requires-clause-unite : goal.unite-requires-clause-unite
unite-requires-clause-unite c =
    let m : Merging = merging_of c.args.work.now in
    let n : Merging = record { links = c.find-b.new.links.items; schemas = c.args.work.now.schemas.items; lefts = c.args.work.now.lefts.items; rights = c.args.work.now.rights.items } in
    let goes = pair_found (shapes_of c.args.arena.now) m n c.args.left c.args.right c.find-a.result c.find-b.result c.find-a.new.links.items c.requires.work c.find-a.ensures.shortened c.find-a.ensures.least c.find-b.ensures.shortened c.find-b.ensures.least refl refl refl in
    let i = pair_inside (shapes_of c.args.arena.now) m c.args.left c.args.right c.requires.work in
    let inside : c.find-a.result < length c.find-a.new.links.items = omega (arith, i.0, c.requires.work.linked, c.find-a.ensures.shortened.as_many, c.find-a.ensures.least.within) in
    can_unite (shapes_of c.args.arena.now) n c.find-a.result c.find-b.result goes.merging c.if-a-b.true (c.find-b.ensures.shortened.stays c.find-a.result inside c.find-a.ensures.least.least) c.find-b.ensures.least.least

pub returns-then-a-b-clause-steps : goal.returns-then-a-b-clause-steps
returns-then-a-b-clause-steps c =
    let m : Merging = merging_of c.args.work.now in
    let n : Merging = record { links = c.find-b.new.links.items; schemas = c.args.work.now.schemas.items; lefts = c.args.work.now.lefts.items; rights = c.args.work.now.rights.items } in
    let goes = pair_found (shapes_of c.args.arena.now) m n c.args.left c.args.right c.find-a.result c.find-b.result c.find-a.new.links.items c.requires.work c.find-a.ensures.shortened c.find-a.ensures.least c.find-b.ensures.shortened c.find-b.ensures.least refl refl refl in
    steps_on (shapes_of c.args.arena.now) (with_pair c.args.left c.args.right m) (with_pair c.find-a.result c.find-b.result n) (merging_of c.unite.new.work) c.unite.result goes c.unite.ensures.steps

pub returns-then-a-b-clause-less : goal.returns-then-a-b-clause-less
returns-then-a-b-clause-less c =
    let m : Merging = merging_of c.args.work.now in
    let n : Merging = record { links = c.find-b.new.links.items; schemas = c.args.work.now.schemas.items; lefts = c.args.work.now.lefts.items; rights = c.args.work.now.rights.items } in
    let short = shortened_on c.args.work.now.links.items c.find-a.new.links.items c.find-b.new.links.items c.find-a.ensures.shortened c.find-b.ensures.shortened in
    lessens_on (shapes_of c.args.arena.now) m n (merging_of c.unite.new.work) c.unite.result (found_less (shapes_of c.args.arena.now) m n short refl) c.unite.ensures.less

pub unite-requires-then-b-a-clause-unite : goal.unite-requires-then-b-a-clause-unite
unite-requires-then-b-a-clause-unite c =
    let m : Merging = merging_of c.args.work.now in
    let n : Merging = record { links = c.find-b.new.links.items; schemas = c.args.work.now.schemas.items; lefts = c.args.work.now.lefts.items; rights = c.args.work.now.rights.items } in
    let goes = pair_found (shapes_of c.args.arena.now) m n c.args.left c.args.right c.find-a.result c.find-b.result c.find-a.new.links.items c.requires.work c.find-a.ensures.shortened c.find-a.ensures.least c.find-b.ensures.shortened c.find-b.ensures.least refl refl refl in
    let turned = goes_on (shapes_of c.args.arena.now) (with_pair c.args.left c.args.right m) (with_pair c.find-a.result c.find-b.result n) (with_pair c.find-b.result c.find-a.result n) goes
    (pair_turned (shapes_of c.args.arena.now) n c.find-a.result c.find-b.result goes.merging) in
    let i = pair_inside (shapes_of c.args.arena.now) m c.args.left c.args.right c.requires.work in
    let inside : c.find-a.result < length c.find-a.new.links.items = omega (arith, i.0, c.requires.work.linked, c.find-a.ensures.shortened.as_many, c.find-a.ensures.least.within) in
    can_unite (shapes_of c.args.arena.now) n c.find-b.result c.find-a.result turned.merging c.if-b-a.true c.find-b.ensures.least.least (c.find-b.ensures.shortened.stays c.find-a.result inside c.find-a.ensures.least.least)

pub returns-then-b-a-clause-steps : goal.returns-then-b-a-clause-steps
returns-then-b-a-clause-steps c =
    let m : Merging = merging_of c.args.work.now in
    let n : Merging = record { links = c.find-b.new.links.items; schemas = c.args.work.now.schemas.items; lefts = c.args.work.now.lefts.items; rights = c.args.work.now.rights.items } in
    let goes = pair_found (shapes_of c.args.arena.now) m n c.args.left c.args.right c.find-a.result c.find-b.result c.find-a.new.links.items c.requires.work c.find-a.ensures.shortened c.find-a.ensures.least c.find-b.ensures.shortened c.find-b.ensures.least refl refl refl in
    let turned = goes_on (shapes_of c.args.arena.now) (with_pair c.args.left c.args.right m) (with_pair c.find-a.result c.find-b.result n) (with_pair c.find-b.result c.find-a.result n) goes
    (pair_turned (shapes_of c.args.arena.now) n c.find-a.result c.find-b.result goes.merging) in
    steps_on (shapes_of c.args.arena.now) (with_pair c.args.left c.args.right m) (with_pair c.find-b.result c.find-a.result n) (merging_of c.unite-then-b-a.new.work) c.unite-then-b-a.result turned c.unite-then-b-a.ensures.steps

pub returns-then-b-a-clause-less : goal.returns-then-b-a-clause-less
returns-then-b-a-clause-less c =
    let m : Merging = merging_of c.args.work.now in
    let n : Merging = record { links = c.find-b.new.links.items; schemas = c.args.work.now.schemas.items; lefts = c.args.work.now.lefts.items; rights = c.args.work.now.rights.items } in
    let short = shortened_on c.args.work.now.links.items c.find-a.new.links.items c.find-b.new.links.items c.find-a.ensures.shortened c.find-b.ensures.shortened in
    lessens_on (shapes_of c.args.arena.now) m n (merging_of c.unite-then-b-a.new.work) c.unite-then-b-a.result (found_less (shapes_of c.args.arena.now) m n short refl) c.unite-then-b-a.ensures.less

pub returns-clause-steps : goal.returns-clause-steps
returns-clause-steps c =
    let m : Merging = merging_of c.args.work.now in
    let n : Merging = record { links = c.find-b.new.links.items; schemas = c.args.work.now.schemas.items; lefts = c.args.work.now.lefts.items; rights = c.args.work.now.rights.items } in
    let goes = pair_found (shapes_of c.args.arena.now) m n c.args.left c.args.right c.find-a.result c.find-b.result c.find-a.new.links.items c.requires.work c.find-a.ensures.shortened c.find-a.ensures.least c.find-b.ensures.shortened c.find-b.ensures.least refl refl refl in
    let same : c.find-a.result ≡ c.find-b.result = omega (arith, c.if-a-b.false, c.if-b-a.false) in
    goes_on (shapes_of c.args.arena.now) (with_pair c.args.left c.args.right m) (with_pair c.find-a.result c.find-b.result n) n goes
    (pair_dropped (shapes_of c.args.arena.now) n c.find-a.result c.find-b.result goes.merging same)

pub unite-requires-clause-room : goal.unite-requires-clause-room
unite-requires-clause-room c =
    let m : Merging = merging_of c.args.work.now in
    let n : Merging = record { links = c.find-b.new.links.items; schemas = c.args.work.now.schemas.items; lefts = c.args.work.now.lefts.items; rights = c.args.work.now.rights.items } in
    let short = shortened_on c.args.work.now.links.items c.find-a.new.links.items c.find-b.new.links.items c.find-a.ensures.shortened c.find-b.ensures.shortened in
    let less = found_room (shapes_of c.args.arena.now) m n c.requires.work.linked short refl refl in
    record { lefts = omega (arith, less, c.requires.room.lefts); rights = omega (arith, less, c.requires.room.rights) }

pub unite-requires-then-b-a-clause-room : goal.unite-requires-then-b-a-clause-room
unite-requires-then-b-a-clause-room c =
    let m : Merging = merging_of c.args.work.now in
    let n : Merging = record { links = c.find-b.new.links.items; schemas = c.args.work.now.schemas.items; lefts = c.args.work.now.lefts.items; rights = c.args.work.now.rights.items } in
    let short = shortened_on c.args.work.now.links.items c.find-a.new.links.items c.find-b.new.links.items c.find-a.ensures.shortened c.find-b.ensures.shortened in
    let less = found_room (shapes_of c.args.arena.now) m n c.requires.work.linked short refl refl in
    record { lefts = omega (arith, less, c.requires.room.lefts); rights = omega (arith, less, c.requires.room.rights) }

pub returns-clause-room : goal.returns-clause-room
returns-clause-room c =
    let m : Merging = merging_of c.args.work.now in
    let n : Merging = record { links = c.find-b.new.links.items; schemas = c.args.work.now.schemas.items; lefts = c.args.work.now.lefts.items; rights = c.args.work.now.rights.items } in
    let short = shortened_on c.args.work.now.links.items c.find-a.new.links.items c.find-b.new.links.items c.find-a.ensures.shortened c.find-b.ensures.shortened in
    let less = found_room (shapes_of c.args.arena.now) m n c.requires.work.linked short refl refl in
    record { lefts = omega (arith, less, c.requires.room.lefts); rights = omega (arith, less, c.requires.room.rights) }
