-- What comes of what the rule takes.
use Rattle.std.proofs.Common.{◌∷◌, []}
use Rattle.std.proofs.lemmas.Result.{IfOk-weaker}
use Rattle.derivation.specs.Words.{copy_rule}
use Rattle.derivation.proofs.Conclusions.{copy_natural}
use Rattle.derivation.proofs.Lawful.{copy_lawful}
use Rattle.inference.proofs.RuleSteps.{judged_as}
use Rattle.inference.proofs.rules.copy.Goals as goal

pub returns : goal.returns
returns c =
    IfOk-weaker c.conclude_applied.result _ _ (λ j h. judged_as copy_rule copy_lawful copy_natural (c.args.parent.now ∷ []) c.in_ok-applied.applied j c.in_ok-applied.ensures h) c.conclude_applied.ensures
