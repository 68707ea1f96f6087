use Rattle.std.proofs.Common.{refl, sym, subst}
use Rattle.prover_steps.specs.HeldOrder.{numbers_of, IsNoneOf}
use Rattle.derivation.proofs.SideSteps.{or_variable}
use Rattle.clause_index.specs.Entries.{rule_left}
use Rattle.clause_index.proofs.Ruling.{no_left, rule_put, rule_taken_back}
use Rattle.clause_index.proofs.rules.RewriteRules.put_in.Goals as goal

pub insert-requires : goal.insert-requires
insert-requires c =
    no_left c.number-number.result c.args.rule c.self.inside.rules.items c.self.inside.lefts c.self.invariant.indexed c.number-number.ensures
    (subst (λ rs. IsNoneOf c.args.rule.number (numbers_of rs)) (sym c.self.view_is) c.requires)

pub invariant_of-self-in-Ok : goal.invariant_of-self-in-Ok
invariant_of-self-in-Ok c = record {
  indexed =
      rule_put c.number-number.result _ c.args.rule c.self.inside.rules.items c.self.inside.lefts c.insert.new.self c.self.invariant.indexed
      (subst (λ rs. IsNoneOf c.args.rule.number (numbers_of rs)) (sym c.self.view_is) c.requires)
      c.number-number.ensures (or_variable c.unwrap_or-left.result c.rule_left.result _ (rule_left c.args.rule) c.unwrap_or-left.ensures refl c.rule_left.ensures) c.in_ok-insert.ensures.ok c.put_in.new.list.items c.in-Ok.ensures.ok;
  normal = c.forget.ensures c.put_in.new.list.items;
}

pub invariant_of-self-in-Err : goal.invariant_of-self-in-Err
invariant_of-self-in-Err c = record {
  indexed =
      rule_taken_back c.number-number.result _ c.args.rule c.self.inside.rules.items c.self.inside.lefts c.insert.new.self c.self.invariant.indexed
      (subst (λ rs. IsNoneOf c.args.rule.number (numbers_of rs)) (sym c.self.view_is) c.requires)
      c.number-number.ensures (or_variable c.unwrap_or-left.result c.rule_left.result _ (rule_left c.args.rule) c.unwrap_or-left.ensures refl c.rule_left.ensures) c.in_ok-insert.ensures.ok c.put_in.new.list.items c.remove.new.self c.in-Err.ensures.err c.remove.ensures;
  normal = c.forget.ensures c.put_in.new.list.items;
}
