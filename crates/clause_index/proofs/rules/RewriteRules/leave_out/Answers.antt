use Rattle.std.proofs.Common.{ap, ◌∙◌}
use Rattle.clause_index.proofs.Removals.{but_for, next_gone}
use Rattle.clause_index.proofs.rules.RewriteRules.leave_out.Goals as goal

pub loop-held-preserved : goal.loop-held-preserved
loop-held-preserved c =
    next_gone c.args.gone.now c.args.self.now c.loop-held.self c.leave_out_one.new.self c.loop-held.held-index c.held-item.result c.loop-held-test.true c.held-item.is c.loop-held.invariant
    (c.leave_out_one.ensures ∙ ap (λ n. but_for n c.loop-held.self) c.number.ensures)
