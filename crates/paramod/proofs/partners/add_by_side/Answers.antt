use Rattle.std.proofs.Common.{sym, ◌∙◌, subst}
use Rattle.fol_core.specs.TermView.{tree_of}
use Rattle.fol_core.specs.Tree.{Tree}
use Rattle.clause_index.specs.Numbered.{AddsAll}
use Rattle.derivation.specs.Words.{side_of}
use Rattle.held_clauses.specs.Order.{greater_of}
use Rattle.paramod.specs.Partners.{replaced_by}
use Rattle.paramod.specs.Sites.{takes_side}
use Rattle.paramod.proofs.Gathered.{asked, unasked}
use Rattle.paramod.proofs.partners.add_by_side.Goals as goal

pub returns-then-not-branch : goal.returns-then-not-branch
returns-then-not-branch c =
    let atom = tree_of c.args.atom.now in
    unasked (takes_side (greater_of c.args.precedence.now) atom c.args.side) c.args.numbers.now.items (replaced_by c.args.held.now (side_of c.args.side atom))
    (sym c.in_ok-is_taken.ensures ∙ c.if-not-branch.true)

pub returns : goal.returns
returns c =
    let atom = tree_of c.args.atom.now in
    let old = c.args.numbers.now.items in
    asked (takes_side (greater_of c.args.precedence.now) atom c.args.side) old (replaced_by c.args.held.now (side_of c.args.side atom)) _
    (sym c.in_ok-is_taken.ensures ∙ c.if-not-branch.false) (subst (λ (t : Tree). AddsAll old (replaced_by c.args.held.now t) c.add_near_inside.new.numbers.items) c.requires c.in_ok-add_near_inside.ensures)
