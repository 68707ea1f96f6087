use Rattle.clause_index.proofs.Fewer.{normal_without}
use Rattle.clause_index.proofs.Ruling.{rule_out}
use Rattle.clause_index.proofs.rules.RewriteRules.leave_out_one.Goals as goal

pub invariant_of-self : goal.invariant_of-self
invariant_of-self c = record {
  indexed =
      rule_out c.args.number c.self.inside.rules.items c.leave_out_one.new.list.items c.self.inside.lefts c.remove.new.self c.self.invariant.indexed c.remove.ensures c.leave_out_one.ensures;
  normal =
      normal_without c.args.number c.self.inside.rules.items c.leave_out_one.new.list.items c.self.inside.known c.self.invariant.normal c.leave_out_one.ensures;
}
