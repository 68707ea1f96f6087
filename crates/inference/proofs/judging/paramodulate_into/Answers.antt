-- The term isn't there, or it is.
use Rattle.std.proofs.Common.{IfOk, None, ◌∷◌, [], refl, subst}
use Rattle.derivation.specs.Words.{para_rule}
use Rattle.fol_core.specs.TermView.{tree_of}
use Rattle.inference.specs.Applied.{AppliedAs}
use Rattle.inference.proofs.ParaSteps.{no_term, none_below, some_below}
use Rattle.derivation.specs.Places.{atom_at}
use Rattle.inference.proofs.judging.paramodulate_into.Goals as goal

pub returns-in-None : goal.returns-in-None
returns-in-None c =
    let step = c.args.step.now in
    no_term step.equation step.side step.literal step.path.items c.args.from.now c.args.into.now None
    (none_below c.below.result (tree_of c.atom.result.now) (atom_at c.args.into.now step.literal) c.as_slice-path.result.now step.path.items c.below.ensures c.in-None.is c.atom.ensures c.as_slice-path.ensures.value) refl

pub apply_paramodulation-requires-clause-there : goal.apply_paramodulation-requires-clause-there
apply_paramodulation-requires-clause-there c =
    some_below c.below.result c.in-Some.term (tree_of c.atom.result.now) (atom_at c.args.into.now c.args.step.now.literal) c.as_slice-path.result.now c.below.ensures c.in-Some.is c.atom.ensures

pub returns-in-Some : goal.returns-in-Some
returns-in-Some c =
    let step = c.args.step.now in
    subst (λ path. IfOk c.apply_paramodulation.result (AppliedAs (para_rule step.equation step.side step.literal path) (c.args.from.now ∷ c.args.into.now ∷ []))) c.as_slice-path.ensures.value c.apply_paramodulation.ensures
