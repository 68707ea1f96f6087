use Rattle.std.proofs.Common.{sym, ap, ◌∙◌}
use Rattle.clause_index.proofs.Removals.{but_for, none_gone, next_gone}
use Rattle.given_clause.proofs.waiting.Waiting.leave_out.Goals as goal

pub loop-held-init : goal.loop-held-init
loop-held-init c = (sym (none_gone c.args.self.now.held), λ st noted. noted)

pub loop-held-preserved : goal.loop-held-preserved
loop-held-preserved c = (
  next_gone c.args.gone.now c.args.self.now.held c.loop-held.self.held c.leave_out_one.new.self.held c.loop-held.held-index c.held-item.result c.loop-held-test.true c.held-item.is c.loop-held.invariant.0
      (c.leave_out_one.ensures.held ∙ ap (λ n. but_for n c.loop-held.self.held) c.number.ensures),
  λ st noted. c.leave_out_one.ensures.noted st (c.loop-held.invariant.1 st noted),
)
