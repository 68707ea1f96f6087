-- Arguments have smaller numbers, and no more places than the whole.
use Rattle.std.proofs.Common.{◌≤◌, arith, length, ap}
use Rattle.fol_core.specs.Sizes.{size_of}
use Rattle.term_bank.specs.Cells.{numbers}
use Rattle.term_bank.proofs.Building.{below_at, below_more}
use Rattle.term_order.proofs.Bounds.{bound_at, bound_below}
use Rattle.term_order.proofs.Sizes.{size_at}
use Rattle.term_order.proofs.precedence.Precedence.+weigh.Goals as goal

pub weigh_all-weigh-weight-requires : goal.weigh_all-weigh-weight-requires
weigh_all-weigh-weight-requires t c =
    let smaller = bound_at c.args.ts.now c.loop-t.t-index record { 0 = 0 } c.loop-t-test.true in
    let size = size_at c.args.bank.now c.args.ts.now c.loop-t.t-index record { 0 = 0 } c.loop-t-test.true in
    (omega (arith, smaller, c.decreases), (below_at (length c.args.bank.now) c.args.ts.now c.loop-t.t-index record { 0 = 0 } c.requires.ts c.loop-t-test.true, omega (arith, size, c.requires.size)))

pub weigh-weigh_all-requires : goal.weigh-weigh_all-requires
weigh-weigh_all-requires t c =
    let smaller = bound_below c.args.t.0 c.in-App.ts.now c.in-App.ensures.below in
    let within : c.args.t.0 ≤ length c.args.bank.now = omega (arith, c.requires.t) in
    let size = ap size_of c.in-App.ensures.tree in
    (omega (arith, smaller, c.decreases), (below_more c.args.t.0 (length c.args.bank.now) within (numbers c.in-App.ts.now) c.in-App.ensures.below, omega (arith, size, c.requires.size)))
