-- What comes of what the rule takes.
use Rattle.std.proofs.lemmas.Result.{IfOk-weaker}
use Rattle.derivation.specs.View.{first_word_of}
use Rattle.inference.specs.Judged.{rule_by}
use Rattle.inference.specs.Lent.{lent_clauses}
use Rattle.inference.proofs.JudgeSteps.{lawful_by}
use Rattle.inference.proofs.RuleSteps.{judged_as}
use Rattle.inference.proofs.judging.judge.Goals as goal

pub returns : goal.returns
returns c =
    let w = first_word_of c.args.first.now in
    IfOk-weaker c.conclude_applied.result _ _ (λ j h. judged_as (rule_by w) (lawful_by w).0 (lawful_by w).1 (lent_clauses c.args.parents.now) c.in_ok-applied.applied j c.in_ok-applied.ensures h) c.conclude_applied.ensures
