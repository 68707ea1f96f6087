-- An answer more.
use Rattle.carried_answers.proofs.WholeSteps.{pack_end, pack_next}
use Rattle.carried_answers.proofs.packing.pack.Goals as goal

pub loop-answer-preserved : goal.loop-answer-preserved
loop-answer-preserved c =
    pack_next c.args.answers.now c.loop-answer.answer-index c.answer-item.result c.in_ok-terms.terms c.args.clause.now c.loop-answer.clause c.push.new.self c.loop-answer-test.true c.answer-item.is c.loop-answer.invariant c.in_ok-terms.ensures c.in_ok-push.ensures.ok

pub returns : goal.returns
returns c = pack_end c.args.answers.now c.loop-answer.answer-index c.args.clause.now c.loop-answer.clause c.loop-answer-test.false c.loop-answer.invariant
