-- A schema's argument that is left.
use Rattle.std.proofs.Common.{◌≡◌, ◌<◌, ◌∙◌, sym, ap, subst, length, arith}
use Rattle.std.proofs.lemmas.List.{get_or_read}
use Rattle.term_unifiers.specs.Arenas.{shapes_of}
use Rattle.term_unifiers.specs.Classes.{Classes, arguments_of, classes_of, schema_of}
use Rattle.term_unifiers.specs.Merging.{merging_of, nth}
use Rattle.term_unifiers.specs.Shapes.{shape_at}
use Rattle.term_unifiers.proofs.Advances.{schema_read, argument_inside, child_read}
use Rattle.term_unifiers.proofs.ordering.next_child.Goals as goal

pub arguments_at-arguments-requires-clause-within :
    goal.arguments_at-arguments-requires-clause-within
arguments_at-arguments-requires-clause-within c =
    (schema_read (classes_of (shapes_of c.args.arena.now) (merging_of c.args.work.now)) c.args.frame.root c.index.result.now c.requires.classes c.requires.within c.index.ensures).1

pub index-requires-then-frame-arguments : goal.index-requires-then-frame-arguments
index-requires-then-frame-arguments c =
    let classes : Classes = classes_of (shapes_of c.args.arena.now) (merging_of c.args.work.now) in
    let schema = schema_read classes c.args.frame.root c.index.result.now c.requires.classes c.requires.within c.index.ensures in
    let all : c.arguments_at-arguments.result.now ≡ arguments_of (schema_of classes c.args.frame.root) = c.arguments_at-arguments.ensures ∙ ap (λ n. arguments_of (shape_at (shapes_of c.args.arena.now) n)) schema.0 in
    let left : c.args.frame.next < length (arguments_of (schema_of classes c.args.frame.root)) = subst (λ ks. c.args.frame.next < length ks) all c.if-frame-arguments.true in
    let inside : nth c.arguments_at-arguments.result.now c.args.frame.next < length c.args.work.now.links.items =
    subst (λ ks. nth ks c.args.frame.next < length c.args.work.now.links.items) (sym all) (argument_inside classes c.args.frame.root c.args.frame.next c.requires.classes c.requires.within left) in
    omega (arith, inside, c.args.work.now.links.ok.0)

pub returns-then-frame-arguments-clause-child : goal.returns-then-frame-arguments-clause-child
returns-then-frame-arguments-clause-child c =
    let classes : Classes = classes_of (shapes_of c.args.arena.now) (merging_of c.args.work.now) in
    let schema = schema_read classes c.args.frame.root c.index.result.now c.requires.classes c.requires.within c.index.ensures in
    let all : c.arguments_at-arguments.result.now ≡ arguments_of (schema_of classes c.args.frame.root) = c.arguments_at-arguments.ensures ∙ ap (λ n. arguments_of (shape_at (shapes_of c.args.arena.now) n)) schema.0 in
    let left : c.args.frame.next < length (arguments_of (schema_of classes c.args.frame.root)) = subst (λ ks. c.args.frame.next < length ks) all c.if-frame-arguments.true in
    let inside = argument_inside classes c.args.frame.root c.args.frame.next c.requires.classes c.requires.within left in
    let at_all : nth c.args.work.now.links.items (nth c.arguments_at-arguments.result.now c.args.frame.next) ≡ nth c.args.work.now.links.items (nth (arguments_of (schema_of classes c.args.frame.root)) c.args.frame.next) =
    ap (λ ks. nth c.args.work.now.links.items (nth ks c.args.frame.next)) all in
    let found = subst (λ ks. nth ks c.args.frame.next < length c.args.work.now.links.items) (sym all) inside in
    let read : c.index-then-frame-arguments.result.now ≡ nth c.args.work.now.links.items (nth c.arguments_at-arguments.result.now c.args.frame.next) =
    get_or_read c.args.work.now.links.items (nth c.arguments_at-arguments.result.now c.args.frame.next) c.index-then-frame-arguments.result.now found c.index-then-frame-arguments.ensures 0 in
    child_read classes c.args.frame.root c.args.frame.next c.index-then-frame-arguments.result.now c.requires.classes c.requires.within left (read ∙ at_all)
