use Rattle.std.proofs.Common.{◌∙◌}
use Rattle.std.proofs.lemmas.Bool.{ne_eqb}
use Rattle.ladr_lex.proofs.ItemLemmas.{same_stops}
use Rattle.ladr_lex.proofs.Steps.{advances_both}
use Rattle.ladr_lex.proofs.item.stop_from.Goals as goal

pub loop-at-preserved : goal.loop-at-preserved
loop-at-preserved c =
    (advances_both _ _ _ _ _ _ _ _ c.loop-at.invariant.0 c.in_ok-at.ensures.cut.0, same_stops _ _ _ c.in_ok-at.ensures.stop (ne_eqb _ _ c.if-text-at-ne46.true) ∙ c.loop-at.invariant.1)
