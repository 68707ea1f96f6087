-- A schema's arguments are nodes, and so are their classes.
use Rattle.std.proofs.Common.{sym, subst, length}
use Rattle.term_unifiers.specs.Arenas.{shapes_of}
use Rattle.term_unifiers.specs.Classes.{Classes, classes_of}
use Rattle.term_unifiers.specs.Merging.{merging_of}
use Rattle.term_unifiers.specs.Shapes.{AreBelow}
use Rattle.term_unifiers.proofs.Advances.{schema_read, schema_arguments, links_below}
use Rattle.term_unifiers.proofs.measuring.measured.Goals as goal

pub view-requires-clause-within : goal.view-requires-clause-within
view-requires-clause-within c =
    (schema_read (classes_of (shapes_of c.args.arena.now) (merging_of c.args.work.now)) c.args.root c.index.result.now c.requires.classes c.requires.root c.index.ensures).1

pub above-requires-clause-arguments : goal.above-requires-clause-arguments
above-requires-clause-arguments c =
    let classes : Classes = classes_of (shapes_of c.args.arena.now) (merging_of c.args.work.now) in
    let schema = schema_read classes c.args.root c.index.result.now c.requires.classes c.requires.root c.index.ensures in
    subst (λ l. AreBelow (length l) c.in-Application.arguments.now) (sym c.as_slice.ensures.value)
    (schema_arguments classes c.index.result.now c.in-Application.field-0 c.in-Application.arguments.now c.requires.classes schema.1 c.in-Application.ensures)

pub above-requires-clause-links : goal.above-requires-clause-links
above-requires-clause-links c =
    let classes : Classes = classes_of (shapes_of c.args.arena.now) (merging_of c.args.work.now) in
    subst (λ l. AreBelow (length c.args.measures.now) l) (sym c.as_slice.ensures.value) (subst (λ n. AreBelow n c.args.work.now.links.items) (sym c.requires.len) (links_below classes c.requires.classes))
