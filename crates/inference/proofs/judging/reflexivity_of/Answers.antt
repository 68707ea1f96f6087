-- The one parent.
use Rattle.std.proofs.Common.{IfOk, List, sym, subst}
use Rattle.fol_core.specs.Literals.{ClauseTree}
use Rattle.derivation.specs.Words.{xx_rule}
use Rattle.inference.specs.Applied.{AppliedAs}
use Rattle.inference.proofs.JudgeSteps.{one_parent}
use Rattle.inference.proofs.judging.reflexivity_of.Goals as goal

pub returns : goal.returns
returns c =
    subst (λ (cs : List ClauseTree). IfOk c.apply_reflexivity.result (AppliedAs (xx_rule c.args.a) cs)) (sym (one_parent c.args.parents.now c.index-parents-0.result c.if-parents-ne1.false c.index-parents-0.is)) c.apply_reflexivity.ensures
