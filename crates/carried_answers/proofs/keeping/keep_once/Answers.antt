-- Each of the answers once more.
use Rattle.std.proofs.Common.{arith}
use Rattle.carried_answers.proofs.OnceSteps.{keep_end, keep_start}
use Rattle.carried_answers.proofs.keeping.keep_once.Goals as goal

pub on-init : goal.on-init
on-init c = λ d us is from. keep_start d us c.args.whole.now c.args.first is from

pub on-preserved : goal.on-preserved
on-preserved c = λ d us is from. c.keep_next-place.ensures.kept d us from (c.on.invariant d us is from)

pub returns : goal.returns
returns c = λ d us is from. keep_end d us c.on.whole c.on.place (c.on.invariant d us is from) (omega arith)
