use Rattle.fol_problem.specs.Stated.{stated_of}
use Rattle.ladr_clausetester.proofs.Told.{take_more, kept_more}
use Rattle.ladr_clausetester.proofs.filter.are_kept.Goals as goal

pub loop-place-preserved : goal.loop-place-preserved
loop-place-preserved c =
    let more = take_more c.args.its.now c.loop-place.place c.at.result.now c.at.ensures in
    rw (more, c.in_ok-push.ensures.items) (kept_more (stated_of c.args.problem.now) _ _ _ _ c.loop-place.invariant c.in_ok-now.ensures)
