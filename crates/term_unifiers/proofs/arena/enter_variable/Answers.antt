-- The variable had no node, and has the last one.
use Rattle.std.proofs.Common.{◌≡◌, ◌∙◌, None, Some, refl, sym, ap, subst, length, arith}
use Rattle.term_unifiers.specs.Arenas.{IsNode, node_of, shapes_of}
use Rattle.term_unifiers.specs.Shapes.{variable}
use Rattle.term_unifiers.specs.declared.node.Arena.{Arena}
use Rattle.term_unifiers.proofs.Entering.{variable_entered}
use Rattle.term_unifiers.proofs.Growing.{grows_refl}
use Rattle.term_unifiers.proofs.arena.enter_variable.Goals as goal

pub returns-in_ok-name_node-in-None : goal.returns-in_ok-name_node-in-None
returns-in_ok-name_node-in-None c =
    let old : Arena = c.args.arena.now in
    let new : Arena = record { nodes = c.push.new.self; arguments = c.args.arena.now.arguments; variables = c.name_node.new.variables } in
    let place : length c.args.arena.now.nodes.items ≡ c.len-n.result = omega (arith, c.len-n.ensures, c.args.arena.now.nodes.ok.0) in
    let absent : node_of c.args.arena.now c.args.x ≡ None = sym c.node_of.ensures ∙ c.in-None.is in
    subst (IsNode old new (variable c.args.x)) place
    (variable_entered old new c.variable_node.result c.args.x c.requires refl c.in_ok-push-in-None.ensures.items (c.variable_node.ensures.placed (length c.args.arena.now.arguments.items)) (c.variable_node.ensures.shape c.args.arena.now.arguments.items) absent (c.in_ok-name_node-in-None.ensures.here ∙ ap Some (sym place)) c.in_ok-name_node-in-None.ensures.others)

pub returns-in-Some : goal.returns-in-Some
returns-in-Some c =
    let there : node_of c.args.arena.now c.args.x ≡ Some c.in-Some.n = sym c.node_of.ensures ∙ c.in-Some.is in
    let own = c.requires.named c.args.x c.in-Some.n there in
    record { arena = c.requires; grows = grows_refl (shapes_of c.args.arena.now); within = own.0; shape = own.1 }
