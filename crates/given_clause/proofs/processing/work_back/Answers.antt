use Rattle.std.proofs.Common.{subst, sym}
use Rattle.given_clause.specs.Guides.{setting_of}
use Rattle.given_clause.specs.States.{state_of}
use Rattle.prover_steps.specs.HeldOrder.{IsInOrder, IsNoRuleIn}
use Rattle.given_clause.proofs.processing.work_back.Goals as goal

pub delete_back-requires : goal.delete_back-requires
delete_back-requires c =
    let st = setting_of c.args.guide.now in
    subst IsInOrder (sym c.in_ok-subsumed_back.ensures.state) ((c.steps_keep_order.ensures.subsuming st c.args.held.now (state_of c.args.search.now)).order c.requires.ordered)

pub rules_back-requires-clause-ordered : goal.rules_back-requires-clause-ordered
rules_back-requires-clause-ordered c =
    let st = setting_of c.args.guide.now in
    subst IsInOrder (sym c.in_ok-delete_back.ensures.state)
    ((c.steps_keep_order.ensures.deleting st c.args.held.now (state_of c.subsumed_back.new.search)).order
    (subst IsInOrder (sym c.in_ok-subsumed_back.ensures.state) ((c.steps_keep_order.ensures.subsuming st c.args.held.now (state_of c.args.search.now)).order c.requires.ordered)))

pub rules_back-requires-clause-no_rule : goal.rules_back-requires-clause-no_rule
rules_back-requires-clause-no_rule c =
    let st = setting_of c.args.guide.now in
    let n = c.args.held.now.number in
    subst (λ s. IsNoRuleIn s n) (sym c.in_ok-delete_back.ensures.state)
    ((c.steps_keep_order.ensures.deleting st c.args.held.now (state_of c.subsumed_back.new.search)).no_rule n
    (subst (λ s. IsNoRuleIn s n) (sym c.in_ok-subsumed_back.ensures.state) ((c.steps_keep_order.ensures.subsuming st c.args.held.now (state_of c.args.search.now)).no_rule n c.requires.no_rule)))
