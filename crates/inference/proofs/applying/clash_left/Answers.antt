-- A satellite has its literal; what it leaves comes to the rest, and all is left.
use Rattle.std.proofs.Common.{ap, arith}
use Rattle.inference.specs.Left.{all_left}
use Rattle.inference.proofs.ClashSteps.{all_left_behind, are_there, one_left, one_more, place_within}
use Rattle.inference.proofs.FitSteps.{satellite_at, satellite_is}
use Rattle.inference.proofs.applying.clash_left.Goals as goal

pub bounds-parents-i : goal.bounds-parents-i
bounds-parents-i c = let many = one_more c.args.satellites.now c.args.parents.now c.requires in omega (arith, many, c.loop-i-test.true)

pub leave_others-requires : goal.leave_others-requires
leave_others-requires c =
    let ss = c.args.satellites.now in
    let ps = c.args.parents.now in
    let i = c.loop-i.i in
    place_within c.index-parents-i.result.now (satellite_at ss i).literal
    (are_there ss ps i (satellite_at ss i) c.index-parents-0.result c.index-parents-i.result c.requires c.loop-i-test.true (satellite_is ss i c.loop-i-test.true) c.index-parents-0.is c.index-parents-i.is).satellite

pub loop-i-preserved : goal.loop-i-preserved
loop-i-preserved c =
    let ss = c.args.satellites.now in
    let ps = c.args.parents.now in
    let i = c.loop-i.i in
    let many = one_more ss ps c.requires in
    one_left ss ps i (satellite_at ss i) c.index-parents-i.result (all_left c.loop-i.left.items) (all_left c.leave_others.new.left.items) _ c.loop-i-test.true many (satellite_is ss i c.loop-i-test.true) c.index-parents-i.is
    c.in_ok-leave_others.ensures c.loop-i.invariant

pub returns : goal.returns
returns c =
    all_left_behind c.args.satellites.now c.args.parents.now c.index-parents-0.result c.loop-i.i (all_left c.new-left.result.items) (all_left c.leave_untaken.new.left.items) (all_left c.loop-i.left.items) c.requires c.index-parents-0.is
    c.loop-i-test.false (ap all_left c.new-left.ensures.items) c.in_ok-leave_untaken.ensures c.loop-i.invariant
