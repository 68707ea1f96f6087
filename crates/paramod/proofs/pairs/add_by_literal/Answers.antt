use Rattle.std.proofs.Common.{ap, ap₂, sym, ◌∙◌, ◌&&◌}
use Rattle.derivation.specs.Equations.{is_equation}
use Rattle.derivation.specs.Places.{atom_at}
use Rattle.held_clauses.specs.Order.{greater_of}
use Rattle.paramod.proofs.Missing.{none_tried}
use Rattle.resolution.specs.View.{all_conclusions}
use Rattle.resolution.proofs.Going.{nothing_added}
use Rattle.paramod.proofs.pairs.add_by_literal.Goals as goal

pub returns-then-not-literal : goal.returns-then-not-literal
returns-then-not-literal c =
    let f = c.args.from.now in
    nothing_added (all_conclusions c.args.made.now.items) _
    (none_tried (greater_of c.args.precedence.now) f c.args.into.now c.args.equation
    (ap (λ b. b && is_equation (atom_at f.clause c.args.equation)) (c.requires.sign ∙ c.if-not-literal.true)))

pub returns-in_default : goal.returns-in_default
returns-in_default c =
    let f = c.args.from.now in
    nothing_added (all_conclusions c.args.made.now.items) _
    (none_tried (greater_of c.args.precedence.now) f c.args.into.now c.args.equation
    (ap₂ (λ p q. p && q) (c.requires.sign ∙ c.if-not-literal.false) (ap is_equation (sym c.requires.atom) ∙ c.in_default.ensures.cases)))
