use Rattle.std.proofs.Common.{◌≡◌, ℕ, Option, ap, subst, ◌∙◌}
use Rattle.std.specs.Prelude.{OnOk, IfErr}
use Rattle.std.specs.declared.result.Result.{Result}
use Rattle.std.specs.declared.result.Result.TheVariants.{Ok}
use Rattle.fol_core.specs.RawView.{raw_of}
use Rattle.ladr_problem.specs.Adding.{after_weight, style_in}
use Rattle.ladr_problem.specs.Draft.{sofar_of}
use Rattle.ladr_problem.specs.Reading.{IsNo, after_rule_read}
use Rattle.ladr_problem.specs.Sofar.{Sofar}
use Rattle.ladr_problem.specs.declared.refusal.Refusal.{Refusal}
use Rattle.ladr_problem.proofs.Takings.{same_rule}
use Rattle.ladr_problem.proofs.draft.Draft.take_weight.Goals as goal
use Rattle.ladr_rules.specs.RuleSeen.{IsRuleIn}
use Rattle.ladr_rules.specs.Rules.{rule_in}
use Rattle.ladr_rules.specs.declared.rules.RuleRead.{RuleRead}

same : (c : goal.After-settle_rule) →
    after_rule_read c.args.program c.len-before.result (record (sofar_of c.args.self.now) { symbols = c.weight_rule.new.symbols }) c.in-Some.read
    ≡ after_weight c.args.program (sofar_of c.args.self.now) (raw_of c.args.raw.now)
same c =
    let s = sofar_of c.args.self.now in
    let is = subst (λ (o : Option RuleRead). IsRuleIn (rule_in (style_in c.args.program s) s.symbols (raw_of c.args.raw.now)) o s.symbols c.weight_rule.new.symbols) c.in-Some.is c.in_ok-read.ensures.read in
    ap (λ (n : ℕ). after_rule_read c.args.program n (record s { symbols = c.weight_rule.new.symbols }) c.in-Some.read) c.len-before.ensures.len
    ∙ same_rule c.args.program 0 s (raw_of c.args.raw.now) c.in-Some.read c.weight_rule.new.symbols is c.weight_rule.ensures.kept

pub returns-in-Some-clause-ok : goal.returns-in-Some-clause-ok
returns-in-Some-clause-ok c = subst (λ (r : Result Sofar Refusal). OnOk c.settle_rule.result (r ≡ Ok (sofar_of c.settle_rule.new.self))) (same c) c.settle_rule.ensures.ok

pub returns-in-Some-clause-refused : goal.returns-in-Some-clause-refused
returns-in-Some-clause-refused c = subst (λ (r : Result Sofar Refusal). IfErr c.settle_rule.result (IsNo r)) (same c) c.settle_rule.ensures.refused
