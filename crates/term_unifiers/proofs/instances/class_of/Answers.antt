-- A variable that has a node, and one that has none.
use Rattle.std.proofs.Common.{◌≡◌, ◌<◌, ◌∙◌, Some, None, sym, length, arith}
use Rattle.std.proofs.lemmas.List.{get_or_read}
use Rattle.term_unifiers.specs.Arenas.{node_of}
use Rattle.term_unifiers.proofs.Bindings.{class_bound, none_bound}
use Rattle.term_unifiers.proofs.instances.class_of.Goals as goal

pub index-requires : goal.index-requires
index-requires c =
    let node : node_of c.args.found.now.arena c.args.x ≡ Some c.in-Some.n = sym c.node_of.ensures ∙ c.in-Some.is in
    let named = c.requires.arena.named c.args.x c.in-Some.n node in
    omega (arith, named.0, c.requires.classes.linked, c.args.found.now.work.links.ok.0)

pub returns-in-Some : goal.returns-in-Some
returns-in-Some c =
    let node : node_of c.args.found.now.arena c.args.x ≡ Some c.in-Some.n = sym c.node_of.ensures ∙ c.in-Some.is in
    let named = c.requires.arena.named c.args.x c.in-Some.n node in
    let inside : c.in-Some.n < length c.args.found.now.work.links.items = omega (arith, named.0, c.requires.classes.linked) in
    class_bound c.args.found.now c.args.x c.in-Some.n c.index.result.now c.requires node (get_or_read c.args.found.now.work.links.items c.in-Some.n c.index.result.now inside c.index.ensures 0)

pub returns-in-None : goal.returns-in-None
returns-in-None c =
    let node : node_of c.args.found.now.arena c.args.x ≡ None = sym c.node_of.ensures ∙ c.in-None.is in
    none_bound c.args.found.now c.args.x node
