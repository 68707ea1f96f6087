-- An argument more, and all of them.
use Rattle.std.proofs.Common.{subst, arith, []}
use Rattle.term_unifiers.specs.Arenas.{shapes_of}
use Rattle.term_unifiers.specs.Classes.{Classes, classes_of}
use Rattle.term_unifiers.specs.Merging.{merging_of}
use Rattle.term_unifiers.specs.Walking.{IsChild, IsWalk}
use Rattle.term_unifiers.specs.declared.walk.Mark.TheVariants.{Done}
use Rattle.term_unifiers.proofs.Advances.{schema_read, mark_read}
use Rattle.term_unifiers.proofs.AtOnce.{argument_linked, argument_read, one_more_in, all_in}
use Rattle.term_unifiers.proofs.ordering.is_next.Goals as goal

pub arguments_at-argument-items-requires-clause-within :
    goal.arguments_at-argument-items-requires-clause-within
arguments_at-argument-items-requires-clause-within c =
    (schema_read (classes_of (shapes_of c.args.arena.now) (merging_of c.args.work.now)) c.args.root c.index.result.now c.requires.classes c.requires.root c.index.ensures).1

pub index-child-requires : goal.index-child-requires
index-child-requires c =
    let classes : Classes = classes_of (shapes_of c.args.arena.now) (merging_of c.args.work.now) in
    let inside = argument_linked classes c.args.root c.index.result.now c.loop-argument.argument-index c.arguments_at-argument-items.result.now c.requires.classes c.requires.root c.index.ensures c.arguments_at-argument-items.ensures c.loop-argument-test.true in
    omega (arith, inside, c.args.work.now.links.ok.0)

pub index-requires-in-loop-argument : goal.index-requires-in-loop-argument
index-requires-in-loop-argument c =
    let classes : Classes = classes_of (shapes_of c.args.arena.now) (merging_of c.args.work.now) in
    let child : IsChild classes c.args.root c.loop-argument.argument-index c.index-child.result.now = argument_read classes c.args.root c.index.result.now c.loop-argument.argument-index c.index-child.result.now c.arguments_at-argument-items.result.now c.requires.classes c.requires.root c.index.ensures c.arguments_at-argument-items.ensures c.loop-argument-test.true c.index-child.ensures in
    omega (arith, child.within, c.requires.walk.walk.as_many, c.args.walk.now.marks.ok.0)

pub loop-argument-preserved : goal.loop-argument-preserved
loop-argument-preserved c =
    let classes : Classes = classes_of (shapes_of c.args.arena.now) (merging_of c.args.work.now) in
    let walk : IsWalk classes c.args.walk.now.marks.items c.args.walk.now.order.items [] = subst (IsWalk classes c.args.walk.now.marks.items c.args.walk.now.order.items) c.requires.walk.empty c.requires.walk.walk in
    let child : IsChild classes c.args.root c.loop-argument.argument-index c.index-child.result.now = argument_read classes c.args.root c.index.result.now c.loop-argument.argument-index c.index-child.result.now c.arguments_at-argument-items.result.now c.requires.classes c.requires.root c.index.ensures c.arguments_at-argument-items.ensures c.loop-argument-test.true c.index-child.ensures in
    one_more_in classes c.args.walk.now.marks.items c.args.walk.now.order.items c.args.root c.loop-argument.argument-index c.index-child.result.now walk child
    (mark_read classes c.args.walk.now.marks.items c.args.walk.now.order.items [] c.index-child.result.now c.index-in-loop-argument.result.now Done walk child.within c.index-in-loop-argument.ensures c.in-Done.is)
    c.loop-argument.invariant

pub returns : goal.returns
returns c t =
    let classes : Classes = classes_of (shapes_of c.args.arena.now) (merging_of c.args.work.now) in
    all_in classes c.args.walk.now.order.items c.args.root c.index.result.now c.loop-argument.argument-index c.arguments_at-argument-items.result.now c.requires.classes c.requires.root c.index.ensures c.arguments_at-argument-items.ensures c.loop-argument-test.false c.loop-argument.invariant
