-- The literals before the place, and those behind it.
use Rattle.std.proofs.Common.{arith}
use Rattle.std.proofs.lemmas.Result.{on_ok_weaker}
use Rattle.inference.specs.Left.{all_left}
use Rattle.inference.proofs.LeaveSteps.{others_left}
use Rattle.inference.proofs.leaving.leave_others.Goals as goal

pub returns : goal.returns
returns c =
    on_ok_weaker c.leave_all-2.result
    (others_left c.args.parent c.args.clause.now c.as_slice-literals.result.now c.args.place (all_left c.args.left.now.items) (all_left c.leave_all.new.left.items) (all_left c.leave_all-2.new.left.items)
    c.as_slice-literals.ensures.literals (omega (arith, c.requires, c.as_slice-literals.ensures.len)) c.in_ok-leave_all.ensures) c.leave_all-2.ensures
