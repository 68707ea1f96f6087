-- A class that is next, put into the order at once.
use Rattle.std.proofs.Common.{refl}
use Rattle.term_unifiers.specs.Arenas.{shapes_of}
use Rattle.term_unifiers.specs.Classes.{Classes, classes_of}
use Rattle.term_unifiers.specs.Merging.{merging_of}
use Rattle.term_unifiers.specs.declared.walk.Mark.TheVariants.{New}
use Rattle.term_unifiers.proofs.Advances.{mark_read}
use Rattle.term_unifiers.proofs.AtOnce.{visited_at_once}
use Rattle.term_unifiers.proofs.ordering.visit.Goals as goal

pub returns-else-not-is_next-clause-visits : goal.returns-else-not-is_next-clause-visits
returns-else-not-is_next-clause-visits c =
    let classes : Classes = classes_of (shapes_of c.args.arena.now) (merging_of c.args.work.now) in
    let fresh = mark_read classes c.args.walk.now.marks.items c.args.walk.now.order.items c.args.walk.now.frames.items c.args.root c.index.result.now New c.requires.walk.walk c.requires.root c.index.ensures c.in-New.is in
    visited_at_once classes c.args.walk.now _ c.args.root c.requires.walk c.requires.root fresh (c.is_next.ensures c.if-not-is_next.false) refl c.push_reserved.ensures.items refl
