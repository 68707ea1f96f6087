use Rattle.std.proofs.Common.{subst, sym, ap, ◌∙◌}
use Rattle.given_clause.specs.States.{state_of}
use Rattle.prover_steps.specs.HeldOrder.{IsInOrder}
use Rattle.prover_steps.specs.Searching.{put_in}
use Rattle.given_clause.proofs.processing.rules_back.Goals as goal

pub put_back-requires : goal.put_back-requires
put_back-requires c =
    let s = state_of c.args.search.now in
    subst (λ rs. IsInOrder (record s { rules = rs })) (sym (c.in_ok-put_in.ensures.ok ∙ ap (λ h. put_in h s.rules) c.in_ok-copy.ensures))
    (c.steps_keep_order.ensures.rule s c.args.held.now c.requires.ordered c.requires.no_rule)
