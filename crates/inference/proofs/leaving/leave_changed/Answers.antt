-- The literals before the place, the one there with another term in it, and those behind it.
use Rattle.std.proofs.Common.{arith}
use Rattle.std.proofs.lemmas.Result.{on_ok_weaker}
use Rattle.inference.specs.Left.{all_left, change_tree}
use Rattle.inference.proofs.LeaveSteps.{changed_left_is, left_more}
use Rattle.inference.proofs.leaving.leave_changed.Goals as goal

pub returns : goal.returns
returns c =
    on_ok_weaker c.leave_all-2.result
    (changed_left_is c.args.parent c.args.clause.now c.as_slice-literals.result.now c.args.place c.index-literals-place.result (change_tree c.args.change)
    (all_left c.args.left.now.items) (all_left c.leave_all.new.left.items) (all_left c.push.new.self.items) (all_left c.leave_all-2.new.left.items)
    c.as_slice-literals.ensures.literals (omega (arith, c.requires, c.as_slice-literals.ensures.len)) c.index-literals-place.is c.in_ok-leave_all.ensures
    (left_more c.leave_all.new.left.items c.push.new.self.items _ c.in_ok-push.ensures.items)) c.leave_all-2.ensures
