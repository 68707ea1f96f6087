use Rattle.std.proofs.Common.{sym, ◌∙◌}
use Rattle.given_clause.proofs.Subsumed.{by_short}
use Rattle.given_clause.proofs.processing.is_subsumed_in.Goals as goal

pub returns-then-branch-clause-subsumed : goal.returns-then-branch-clause-subsumed
returns-then-branch-clause-subsumed c =
    sym
    (by_short c.args.set.now c.args.clause.now (λ e. c.if-len-eq0.false (c.len.ensures ∙ e))
    (sym c.in_ok-is_subsumed_by_short.ensures.subsumed ∙ c.if-branch.true))
