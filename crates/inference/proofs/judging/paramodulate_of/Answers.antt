-- The two parents.
use Rattle.std.proofs.Common.{IfOk, List, sym, subst}
use Rattle.fol_core.specs.Literals.{ClauseTree}
use Rattle.derivation.specs.Words.{para_rule}
use Rattle.inference.specs.Applied.{AppliedAs}
use Rattle.inference.proofs.JudgeSteps.{two_parents}
use Rattle.inference.proofs.judging.paramodulate_of.Goals as goal

pub returns : goal.returns
returns c =
    let step = c.args.step.now in
    subst (λ (cs : List ClauseTree). IfOk c.find_and_paramodulate.result (AppliedAs (para_rule step.equation step.side step.literal step.path.items) cs))
    (sym (two_parents c.args.parents.now c.index-parents-0.result c.index-parents-1.result c.if-parents-ne2.false c.index-parents-0.is c.index-parents-1.is)) c.find_and_paramodulate.ensures
