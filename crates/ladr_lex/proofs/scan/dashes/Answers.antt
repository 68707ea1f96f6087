use Rattle.std.proofs.Common.{ap, ◌∙◌, ℕ}
use Rattle.std.specs.Prelude.{is_some, ◌==◌}
use Rattle.ladr_lex.proofs.scan.dashes.Goals as goal
use Rattle.ladr_lex.proofs.ItemLemmas.{same_stops}
use Rattle.ladr_lex.proofs.Steps.{dash_alone, advances_both}

pub add-requires-clause-token : goal.add-requires-clause-token
add-requires-clause-token c = ap is_some (dash_alone c.args.text.now.bytes.now c.loop-at.at c.loop-at-test.true c.if-text-at-eq45.true c.loop-at.invariant.1).kind

pub add-requires-clause-end : goal.add-requires-clause-end
add-requires-clause-end c = (dash_alone c.args.text.now.bytes.now c.loop-at.at c.loop-at-test.true c.if-text-at-eq45.true c.loop-at.invariant.1).end

pub loop-at-preserved : goal.loop-at-preserved
loop-at-preserved c =
    (advances_both _ _ _ _ _ _ _ _ c.loop-at.invariant.0 c.in_ok-add.ensures.cut, (dash_alone c.args.text.now.bytes.now c.loop-at.at c.loop-at-test.true c.if-text-at-eq45.true c.loop-at.invariant.1).ahead, same_stops _ _ _ c.in_ok-add.ensures.stop (ap (λ (b : ℕ). b == 46) c.if-text-at-eq45.true) ∙ c.loop-at.invariant.2)
