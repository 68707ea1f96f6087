-- There is room for each literal's variables.
use Rattle.std.proofs.Common.{◌∙◌, ap, map, arith}
use Rattle.fol_core.specs.ClauseView.{literal_of}
use Rattle.subsume.specs.Variables.{standing}
use Rattle.subsume.proofs.Standing.{standing_within}
use Rattle.subsume.proofs.subsuming.all_match_some.Goals as goal

pub matches_some-requires : goal.matches_some-requires
matches_some-requires c =
    let one = standing_within c.deref-literal-items.result.now c.loop-literal.literal-index c.literal-item.result c.loop-literal-test.true c.literal-item.is in
    let all = ap (λ ls. standing (map literal_of ls)) c.deref-literal-items.ensures.value ∙ ap standing c.clause.view_is in
    omega (arith, one, all, c.requires, c.loop-literal.invariant.room)
