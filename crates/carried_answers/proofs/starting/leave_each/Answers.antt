-- A clause more.
use Rattle.inference.specs.Left.{all_left}
use Rattle.carried_answers.proofs.BeginSteps.{each_end, each_next}
use Rattle.carried_answers.proofs.starting.leave_each.Goals as goal

pub loop-i-preserved : goal.loop-i-preserved
loop-i-preserved c =
    each_next c.args.clauses.now c.loop-i.i c.index-clauses-i.result (all_left c.args.left.now.items) (all_left c.loop-i.left.items) (all_left c.leave_clause.new.left.items) c.loop-i-test.true c.index-clauses-i.is c.loop-i.invariant c.in_ok-leave_clause.ensures

pub returns : goal.returns
returns c = each_end c.args.clauses.now c.loop-i.i (all_left c.args.left.now.items) (all_left c.loop-i.left.items) c.loop-i-test.false c.loop-i.invariant
