-- What comes of what the rule takes.
use Rattle.std.proofs.Common.{◌∷◌, []}
use Rattle.std.proofs.lemmas.Result.{IfOk-weaker}
use Rattle.derivation.specs.Words.{para_rule}
use Rattle.derivation.proofs.Conclusions.{para_natural}
use Rattle.derivation.proofs.Lawful.{para_lawful}
use Rattle.inference.proofs.RuleSteps.{judged_as}
use Rattle.inference.proofs.rules.paramodulate.Goals as goal

pub returns : goal.returns
returns c =
    let at = c.args.at in
    IfOk-weaker c.conclude_applied.result _ _ (λ j h. judged_as (para_rule at.equation at.side at.literal at.path.now) (para_lawful at.equation at.side at.literal at.path.now) (para_natural at.equation at.side at.literal at.path.now) (c.args.from.now ∷ c.args.into.now ∷ []) c.in_ok-applied.applied j c.in_ok-applied.ensures h) c.conclude_applied.ensures
