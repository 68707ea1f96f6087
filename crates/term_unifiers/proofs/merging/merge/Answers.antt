-- A pair is taken from the ends of the lists, and what is left at the end.
use Rattle.std.proofs.Common.{◌≡◌, ◌∙◌, [], refl, sym, arith, subst}
use Rattle.std.proofs.lemmas.List.{nil_from_length}
use Rattle.term_unifiers.specs.Arenas.{shapes_of}
use Rattle.term_unifiers.specs.Merging.{Merging, GoesOn, IsMerging, Steps, Lessens, merging_of, with_pair}
use Rattle.term_unifiers.proofs.Merges.{goes_refl, goes_on, clashes_on, popped_pair, popped_less, ends_merged}
use Rattle.term_unifiers.specs.Rooms.{KeepsRoom}
use Rattle.term_unifiers.proofs.Rooms.{popped_room}
use Rattle.term_unifiers.proofs.merging.merge.Goals as goal

pub pairs-init : goal.pairs-init
pairs-init c = record { goes = goes_refl (shapes_of c.args.arena.now) (merging_of c.args.work.now) c.requires.work; room = c.requires.room }

pub equate-requires-clause-work : goal.equate-requires-clause-work
equate-requires-clause-work c =
    popped_pair c.pairs.work.links.items c.pairs.work.schemas.items c.pairs.work.lefts.items c.pairs.work.rights.items c.pop.new.self.items c.pop-in-Some.new.self.items c.in-Some.left c.in-Some-pop.right c.in-Some.ensures.items c.in-Some-pop.ensures.items
    (IsMerging (shapes_of c.args.arena.now)) c.pairs.invariant.goes.merging

pub pairs-preserved : goal.pairs-preserved
pairs-preserved c =
    let popped : Merging = record { links = c.pairs.work.links.items; schemas = c.pairs.work.schemas.items; lefts = c.pop.new.self.items; rights = c.pop-in-Some.new.self.items } in
    let step : GoesOn (shapes_of c.args.arena.now) (with_pair c.in-Some.left c.in-Some-pop.right popped) (merging_of c.equate.new.work) =
    subst (Steps (shapes_of c.args.arena.now) (with_pair c.in-Some.left c.in-Some-pop.right popped) (merging_of c.equate.new.work)) c.if-not-equate.false c.equate.ensures.steps in
    record {
      room = subst (KeepsRoom (shapes_of c.args.arena.now) c.equate.new.work) c.if-not-equate.false c.equate.ensures.room;
      goes = goes_on (shapes_of c.args.arena.now) (merging_of c.args.work.now) (with_pair c.in-Some.left c.in-Some-pop.right popped) (merging_of c.equate.new.work)
          (popped_pair c.pairs.work.links.items c.pairs.work.schemas.items c.pairs.work.lefts.items c.pairs.work.rights.items c.pop.new.self.items c.pop-in-Some.new.self.items c.in-Some.left c.in-Some-pop.right c.in-Some.ensures.items c.in-Some-pop.ensures.items
          (GoesOn (shapes_of c.args.arena.now) (merging_of c.args.work.now)) c.pairs.invariant.goes)
          step;
    }

pub pairs-smaller : goal.pairs-smaller
pairs-smaller c =
    let popped : Merging = record { links = c.pairs.work.links.items; schemas = c.pairs.work.schemas.items; lefts = c.pop.new.self.items; rights = c.pop-in-Some.new.self.items } in
    popped_less (shapes_of c.args.arena.now) c.pairs.work.links.items c.pairs.work.schemas.items c.pairs.work.lefts.items c.pairs.work.rights.items c.pop.new.self.items c.pop-in-Some.new.self.items c.in-Some.left (merging_of c.equate.new.work) c.in-Some.ensures.items
    (subst (Lessens (shapes_of c.args.arena.now) popped (merging_of c.equate.new.work)) c.if-not-equate.false c.equate.ensures.less)

pub returns-then-not-equate : goal.returns-then-not-equate
returns-then-not-equate c =
    let popped : Merging = record { links = c.pairs.work.links.items; schemas = c.pairs.work.schemas.items; lefts = c.pop.new.self.items; rights = c.pop-in-Some.new.self.items } in
    clashes_on (shapes_of c.args.arena.now) (merging_of c.args.work.now) (with_pair c.in-Some.left c.in-Some-pop.right popped)
    (popped_pair c.pairs.work.links.items c.pairs.work.schemas.items c.pairs.work.lefts.items c.pairs.work.rights.items c.pop.new.self.items c.pop-in-Some.new.self.items c.in-Some.left c.in-Some-pop.right c.in-Some.ensures.items c.in-Some-pop.ensures.items
    (GoesOn (shapes_of c.args.arena.now) (merging_of c.args.work.now)) c.pairs.invariant.goes)
    (subst (Steps (shapes_of c.args.arena.now) (with_pair c.in-Some.left c.in-Some-pop.right popped) (merging_of c.equate.new.work)) c.if-not-equate.true c.equate.ensures.steps)

pub returns : goal.returns
returns c =
    let n : Merging = record { links = c.flatten.new.links.items; schemas = c.pairs.work.schemas.items; lefts = c.pop.new.self.items; rights = c.pairs.work.rights.items } in
    let before : c.pairs.work.lefts.items ≡ [] = nil_from_length c.pairs.work.lefts.items (omega (arith, c.in_default.ensures.cases.0, c.pairs.work.lefts.ok.0)) in
    let after : c.pop.new.self.items ≡ [] = nil_from_length c.pop.new.self.items (omega (arith, c.in_default.ensures.cases.1, c.pop.new.self.ok.0)) in
    ends_merged (shapes_of c.args.arena.now) (merging_of c.args.work.now) (merging_of c.pairs.work) n c.pairs.invariant.goes c.flatten.ensures.shortened c.flatten.ensures.flat refl (after ∙ sym before) refl after

pub equate-requires-clause-room : goal.equate-requires-clause-room
equate-requires-clause-room c =
    let less = popped_room (shapes_of c.args.arena.now) c.pairs.work.links.items c.pairs.work.schemas.items c.pairs.work.lefts.items c.pairs.work.rights.items c.pop.new.self.items c.pop-in-Some.new.self.items c.in-Some.left c.in-Some.ensures.items in
    record {
      lefts = omega (arith, less, c.pairs.invariant.room.lefts, c.in-Some.ensures.capacity);
      rights = omega (arith, less, c.pairs.invariant.room.rights, c.in-Some-pop.ensures.capacity);
    }
