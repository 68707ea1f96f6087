-- A satellite that doesn't clash, and one that does.
use Rattle.std.proofs.Common.{sym, ◌∙◌}
use Rattle.inference.proofs.FitSteps.{lent_refused, lent_on, satellite_at, satellite_is}
use Rattle.inference.proofs.fitting.satellites_fit.Goals as goal

pub returns-then-not-are_opposite : goal.returns-then-not-are_opposite
returns-then-not-are_opposite c =
    let ss = c.args.satellites.now in
    let i = c.loop-i.i in
    lent_refused c.args.nucleus.now ss c.args.others.now i (satellite_at ss i) c.index-others-i.result c.loop-i-test.true c.requires (satellite_is ss i c.loop-i-test.true) c.index-others-i.is
    (sym c.are_opposite.ensures ∙ c.if-not-are_opposite.true) c.loop-i.invariant

pub loop-i-preserved : goal.loop-i-preserved
loop-i-preserved c =
    let ss = c.args.satellites.now in
    let i = c.loop-i.i in
    lent_on c.args.nucleus.now ss c.args.others.now i (satellite_at ss i) c.index-others-i.result c.loop-i-test.true c.requires (satellite_is ss i c.loop-i-test.true) c.index-others-i.is
    (sym c.are_opposite.ensures ∙ c.if-not-are_opposite.false) (sym c.is_taken.ensures ∙ c.if-is_taken.false) c.loop-i.invariant
