-- What comes of what the rule takes.
use Rattle.std.proofs.Common.{map}
use Rattle.std.proofs.lemmas.Result.{IfOk-weaker}
use Rattle.derivation.specs.Words.{clash_rule}
use Rattle.derivation.proofs.Conclusions.{clash_natural}
use Rattle.derivation.proofs.Lawful.{clash_lawful}
use Rattle.inference.specs.Judged.{clash_of}
use Rattle.inference.specs.Lent.{lent_clauses}
use Rattle.inference.proofs.RuleSteps.{judged_as}
use Rattle.inference.proofs.rules.clash.Goals as goal

pub returns : goal.returns
returns c =
    let ks = map clash_of c.args.satellites.now in
    IfOk-weaker c.conclude_applied.result _ _ (λ j h. judged_as (clash_rule ks) (clash_lawful ks) (clash_natural ks) (lent_clauses c.args.parents.now) c.in_ok-applied.applied j c.in_ok-applied.ensures h) c.conclude_applied.ensures
