use Rattle.std.proofs.Common.{◌≡◌, ◌+◌, length, take, length-take, arith}
use Rattle.fol_problem.specs.Stated.{stated_of}
use Rattle.ladr_clausetester.proofs.Told.{take_more, so_far_more}
use Rattle.ladr_clausetester.proofs.report.blocks.Goals as goal

pub loop-place-preserved : goal.loop-place-preserved
loop-place-preserved c =
    let its = c.args.its.now in
    let place = c.loop-place.place in
    let more = take_more its place c.at.result.now c.at.ensures in
    let number : place + 1 ≡ length (take place its) + 1 = omega (arith, length-take place its, c.loop-place-test.true, c.len-place-end.ensures) in
    rw (more, c.in_ok-text.ensures, c.in_ok-extend_from_slice.ensures.items, c.deref-in-loop-place.ensures.value, c.in_ok-lines.ensures, c.deref.ensures.value, c.deref-in-loop-place-2.ensures.value)
    (so_far_more (stated_of c.args.problem.now) (take place its) c.at.result.now c.in_ok-all.all.items c.loop-place.out.items c.loop-place.told.items (place + 1) number c.loop-place.invariant c.in_ok-all.ensures)
