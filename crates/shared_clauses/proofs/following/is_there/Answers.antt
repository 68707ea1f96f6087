-- The literal's sign, if there is one.
use Rattle.std.proofs.Common.{false}
use Rattle.shared_clauses.proofs.FollowSteps.{past_literal, there_literal}
use Rattle.shared_clauses.proofs.following.is_there.Goals as goal

pub returns-then-place-literals : goal.returns-then-place-literals
returns-then-place-literals c = λ bank. past_literal bank c.args.literals.now c.args.place c.args.positive c.if-place-literals.true

pub returns : goal.returns
returns c = λ bank. there_literal bank c.args.literals.now c.args.place c.args.positive (record { positive = false; atom = record { 0 = 0 } }) c.if-place-literals.false
