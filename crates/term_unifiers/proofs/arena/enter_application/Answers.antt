-- The node stands behind the others, and its arguments behind theirs.
use Rattle.std.proofs.Common.{◌≡◌, refl, subst, length, arith}
use Rattle.term_unifiers.specs.Arenas.{IsNode}
use Rattle.term_unifiers.specs.Shapes.{application}
use Rattle.term_unifiers.specs.declared.node.Arena.{Arena}
use Rattle.term_unifiers.specs.declared.node.Node.TheVariants.{Application}
use Rattle.term_unifiers.proofs.Entering.{entered_other, application_shape, application_placed, no_application}
use Rattle.term_unifiers.proofs.arena.enter_application.Goals as goal

pub returns : goal.returns
returns c =
    let old : Arena = c.args.arena.now in
    let new : Arena = record { nodes = c.push.new.self; arguments = c.extend_from_slice.new.self; variables = c.args.arena.now.variables } in
    let first : length c.args.arena.now.arguments.items ≡ c.len-first.result = omega (arith, c.len-first.ensures, c.args.arena.now.arguments.ok.0) in
    let place : length c.args.arena.now.nodes.items ≡ c.len-n.result = omega (arith, c.len-n.ensures, c.args.arena.now.nodes.ok.0) in
    let all = c.in_ok-extend_from_slice.ensures.items in
    subst (IsNode old new (application c.args.f c.args.arguments.now)) place
    (entered_other old new c.args.arguments.now (Application c.args.f c.len-first.result (length c.args.arguments.now)) (application c.args.f c.args.arguments.now) c.requires.arena all c.in_ok-push.ensures.items
    (application_placed c.args.arena.now.arguments.items c.args.arguments.now c.extend_from_slice.new.self.items c.args.f c.len-first.result (length c.args.arguments.now) all first refl)
    (application_shape c.args.arena.now.arguments.items c.args.arguments.now c.extend_from_slice.new.self.items c.args.f c.len-first.result (length c.args.arguments.now) all first refl)
    c.requires.arguments (omega arith) (λ x. refl) (λ x e. no_application c.args.f c.args.arguments.now x e))
