-- A literal more.
use Rattle.carried_answers.proofs.OnceSteps.{is_not, is_nowhere, is_there, none_among}
use Rattle.carried_answers.proofs.keeping.is_among.Goals as goal

pub returns-then-are_same : goal.returns-then-are_same
returns-then-are_same c = is_there c.args.whole.now c.args.first c.args.place c.loop-earlier.earlier c.are_same.result c.loop-earlier.auto.earlier c.loop-earlier-test.true c.are_same.ensures c.if-are_same.true

pub loop-earlier-preserved : goal.loop-earlier-preserved
loop-earlier-preserved c = none_among c.args.whole.now c.args.first c.args.place c.loop-earlier.earlier c.loop-earlier.invariant (is_not c.args.whole.now c.args.place c.loop-earlier.earlier c.are_same.result c.are_same.ensures c.if-are_same.false)

pub returns : goal.returns
returns c = is_nowhere c.args.whole.now c.args.first c.args.place c.loop-earlier.earlier c.loop-earlier-test.false c.loop-earlier.invariant
