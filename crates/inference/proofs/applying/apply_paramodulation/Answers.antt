-- What isn't there; all that it takes, and the other side.
use Rattle.std.proofs.Common.{Some, ◌∙◌, not, sym, ap}
use Rattle.derivation.specs.Words.{other_side_of}
use Rattle.fol_core.specs.TermView.{tree_of}
use Rattle.inference.proofs.ParaSteps.{all_there_is, no_side_number, no_term, other_is}
use Rattle.inference.proofs.applying.apply_paramodulation.Goals as goal

pub returns-then-is_variable : goal.returns-then-is_variable
returns-then-is_variable c =
    let at = c.args.at in
    no_term at.equation at.side at.literal at.path.now c.args.from.now c.args.into.now (Some (tree_of c.args.term.now)) c.requires.there (c.is_variable.ensures ∙ ap not c.if-is_variable.true)

pub returns-then-not-is_side : goal.returns-then-not-is_side
returns-then-not-is_side c =
    let at = c.args.at in
    no_side_number at.equation at.side at.literal at.path.now c.args.from.now c.args.into.now (sym c.is_side.ensures ∙ c.if-not-is_side.true)

pub paramodulate_there-requires-clause-fits : goal.paramodulate_there-requires-clause-fits
paramodulate_there-requires-clause-fits c =
    let at = c.args.at in
    all_there_is at.equation at.side at.literal at.path.now c.args.from.now c.args.into.now (tree_of c.args.term.now) (tree_of c.atom.result.now) (tree_of c.in-Some.first.now) (tree_of c.in-Some.second.now)
    (sym c.has_literal.ensures ∙ c.if-not-has_literal.false) c.atom.ensures c.in-Some.ensures.cases (sym c.is_side.ensures ∙ c.if-not-is_side.false) c.requires.there (c.is_variable.ensures ∙ ap not c.if-is_variable.false)

pub paramodulate_there-requires-clause-other : goal.paramodulate_there-requires-clause-other
paramodulate_there-requires-clause-other c =
    other_is c.args.at.side (tree_of c.atom.result.now) (tree_of c.in-Some.first.now) (tree_of c.in-Some.second.now) (tree_of c.chosen-other.result.now) c.chosen-other.ensures c.in-Some.ensures.cases
    ∙ ap (other_side_of c.args.at.side) c.atom.ensures
