-- What isn't there, and the side.
use Rattle.std.proofs.Common.{◌∙◌, sym, ap}
use Rattle.derivation.specs.Words.{side_of}
use Rattle.fol_core.specs.TermView.{tree_of}
use Rattle.inference.proofs.ParaSteps.{no_literal_there, no_place, side_is}
use Rattle.inference.proofs.judging.find_and_paramodulate.Goals as goal

pub returns-then-not-has_place : goal.returns-then-not-has_place
returns-then-not-has_place c =
    let step = c.args.step.now in
    no_literal_there step.equation step.side step.literal step.path.items c.args.from.now c.args.into.now (sym c.has_place.ensures ∙ c.if-not-has_place.true)

pub returns-then-not-has_place-2 : goal.returns-then-not-has_place-2
returns-then-not-has_place-2 c =
    let step = c.args.step.now in
    no_place step.equation step.side step.literal step.path.items c.args.from.now c.args.into.now (sym c.has_place-2.ensures ∙ c.if-not-has_place-2.true)

pub paramodulate_into-requires-clause-side : goal.paramodulate_into-requires-clause-side
paramodulate_into-requires-clause-side c =
    side_is c.args.step.now.side (tree_of c.atom.result.now) (tree_of c.in-Some.first.now) (tree_of c.in-Some.second.now) (tree_of c.chosen-side.result.now) c.chosen-side.ensures c.in-Some.ensures.cases
    ∙ ap (side_of c.args.step.now.side) c.atom.ensures
