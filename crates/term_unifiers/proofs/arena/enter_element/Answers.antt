-- The node stands behind the others.
use Rattle.std.proofs.Common.{◌≡◌, [], refl, sym, subst, length, arith}
use Rattle.std.proofs.lemmas.List.{append-nil}
use Rattle.term_unifiers.specs.Arenas.{IsNode}
use Rattle.term_unifiers.specs.Shapes.{element}
use Rattle.term_unifiers.specs.declared.node.Arena.{Arena}
use Rattle.term_unifiers.specs.declared.node.Node.TheVariants.{Element}
use Rattle.term_unifiers.proofs.Entering.{entered_other, no_element}
use Rattle.term_unifiers.proofs.arena.enter_element.Goals as goal

pub returns : goal.returns
returns c =
    let old : Arena = c.args.arena.now in
    let new : Arena = record { nodes = c.push.new.self; arguments = c.args.arena.now.arguments; variables = c.args.arena.now.variables } in
    let place : length c.args.arena.now.nodes.items ≡ c.len-n.result = omega (arith, c.len-n.ensures, c.args.arena.now.nodes.ok.0) in
    subst (IsNode old new (element c.args.k)) place
    (entered_other old new [] (Element c.args.k) (element c.args.k) c.requires (sym (append-nil c.args.arena.now.arguments.items)) c.in_ok-push.ensures.items tt refl tt (omega arith) (λ x. refl) (λ x e. no_element c.args.k x e))
