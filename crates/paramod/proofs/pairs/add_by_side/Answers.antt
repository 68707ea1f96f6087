use Rattle.std.proofs.Common.{ap, sym, ◌∙◌}
use Rattle.derivation.specs.Places.{atom_at}
use Rattle.fol_core.specs.Tree.{Tree}
use Rattle.held_clauses.specs.Order.{greater_of}
use Rattle.paramod.specs.Sites.{takes_side, paramodulants_by}
use Rattle.resolution.specs.View.{all_conclusions}
use Rattle.resolution.proofs.Going.{tried_none, tried_some}
use Rattle.paramod.proofs.pairs.add_by_side.Goals as goal

pub returns-then-not-branch : goal.returns-then-not-branch
returns-then-not-branch c =
    let greater = greater_of c.args.precedence.now in
    tried_none (takes_side greater (atom_at c.args.from.now.clause c.args.equation) c.args.side) (all_conclusions c.args.made.now.items)
    (paramodulants_by greater c.args.from.now c.args.into.now c.args.equation c.args.side)
    (ap (λ (t : Tree). takes_side greater t c.args.side) (sym c.requires.atom) ∙ sym c.in_ok-is_taken.ensures ∙ c.if-not-branch.true)

pub returns : goal.returns
returns c =
    let greater = greater_of c.args.precedence.now in
    tried_some (takes_side greater (atom_at c.args.from.now.clause c.args.equation) c.args.side) (all_conclusions c.args.made.now.items)
    (paramodulants_by greater c.args.from.now c.args.into.now c.args.equation c.args.side) _
    (ap (λ (t : Tree). takes_side greater t c.args.side) (sym c.requires.atom) ∙ sym c.in_ok-is_taken.ensures ∙ c.if-not-branch.false) c.in_ok-add_by.ensures
