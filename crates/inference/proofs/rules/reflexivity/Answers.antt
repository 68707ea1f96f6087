-- What comes of what the rule takes.
use Rattle.std.proofs.Common.{◌∷◌, []}
use Rattle.std.proofs.lemmas.Result.{IfOk-weaker}
use Rattle.derivation.specs.Words.{xx_rule}
use Rattle.derivation.proofs.Conclusions.{xx_natural}
use Rattle.derivation.proofs.Lawful.{xx_lawful}
use Rattle.inference.proofs.RuleSteps.{judged_as}
use Rattle.inference.proofs.rules.reflexivity.Goals as goal

pub returns : goal.returns
returns c =
    IfOk-weaker c.conclude_applied.result _ _ (λ j h. judged_as (xx_rule c.args.a) (xx_lawful c.args.a) (xx_natural c.args.a) (c.args.parent.now ∷ []) c.in_ok-applied.applied j c.in_ok-applied.ensures h) c.conclude_applied.ensures
