use Rattle.std.proofs.Common.{◌&&◌, ◌++◌, ap, ap₂}
use Rattle.fol_core.specs.TermView.{tree_of}
use Rattle.derivation.specs.Equations.{is_equation}
use Rattle.held_clauses.specs.Order.{greater_of}
use Rattle.paramod.specs.Partners.{by_side}
use Rattle.paramod.proofs.Gathered.{asked, unasked, both_asked}
use Rattle.paramod.proofs.partners.add_by_sides.Goals as goal

pub returns-then-not-literal : goal.returns-then-not-literal
returns-then-not-literal c =
    let l = c.args.literal.now in
    let atom = tree_of l.atom in
    let greater = greater_of c.args.precedence.now in
    unasked (l.positive && is_equation atom) c.args.numbers.now.items (by_side greater c.args.held.now atom 1 ++ by_side greater c.args.held.now atom 2) (ap (λ b. b && is_equation atom) c.if-not-literal.true)

pub returns-in_default : goal.returns-in_default
returns-in_default c =
    let l = c.args.literal.now in
    let atom = tree_of l.atom in
    let greater = greater_of c.args.precedence.now in
    unasked (l.positive && is_equation atom) c.args.numbers.now.items (by_side greater c.args.held.now atom 1 ++ by_side greater c.args.held.now atom 2)
    (ap₂ (λ p q. p && q) c.if-not-literal.false c.in_default.ensures.cases)

pub returns : goal.returns
returns c =
    let l = c.args.literal.now in
    let atom = tree_of l.atom in
    let greater = greater_of c.args.precedence.now in
    let first = by_side greater c.args.held.now atom 1 in
    let second = by_side greater c.args.held.now atom 2 in
    asked (l.positive && is_equation atom) c.args.numbers.now.items (first ++ second) _
    (ap₂ (λ p q. p && q) c.if-not-literal.false c.in-Some.ensures.cases.equal)
    (both_asked c.args.numbers.now.items c.add_by_side.new.numbers.items _ first second c.in_ok-add_by_side.ensures c.in_ok-add_by_side-2.ensures)
